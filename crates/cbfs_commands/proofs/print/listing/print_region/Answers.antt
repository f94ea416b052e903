use Rattle.std.proofs.lemmas.Grind.{common_steps}
use Rattle.std.proofs.Common.{Ok, Err, arith, refl}
use Rattle.cbfs_commands.proofs.PrintSteps.{print_region-from, printed-done, printed-failed, printed-more, printed-stops}
use Rattle.cbfs_commands.proofs.OutputParts.{so_far-none}
use Rattle.cbfs_commands.proofs.print.listing.print_region.Goals as goal

pub loop-cell-init : goal.loop-cell-init
loop-cell-init g c = grind (arith, common_steps, print_region-from, so_far-none)

pub loop-cell-preserved : goal.loop-cell-preserved
loop-cell-preserved g c =
    let step = c.in_ok-cell.ensures in
    printed-more c.loop-cell.invariant c.requires (Ok c.in_ok-cell.field-0) step.calls step.answer c.in-Cell.cell (cc) step.cell c.in_ok-print_cell.ensures _ step.moved

pub returns-in_err-print_cell : goal.returns-in_err-print_cell
returns-in_err-print_cell g c =
    let step = c.in_ok-cell.ensures in
    printed-stops c.loop-cell.invariant c.requires (Ok c.in_ok-cell.field-0) step.calls step.answer c.in-Cell.cell (cc) step.cell c.in_err-print_cell.ensures c.from_residual-in_err-print_cell.ensures.1

pub returns : goal.returns
returns g c =
    let step = c.in_ok-cell.ensures in
    printed-done c.loop-cell.invariant c.requires (Ok c.in_ok-cell.field-0) step.calls step.answer c.in_ok-cell.field-0 refl c.in_default.not-Cell

pub returns-in_err-cell : goal.returns-in_err-cell
returns-in_err-cell g c =
    let step = c.in_err-cell.ensures in
    printed-failed c.loop-cell.invariant c.requires (Err c.in_err-cell.field-0.0) step.calls step.answer c.in_err-cell.field-0.0 refl c.from_residual.ensures.1
