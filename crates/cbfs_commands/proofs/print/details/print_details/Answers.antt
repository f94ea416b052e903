use Rattle.std.proofs.Common.{[], append-nil, List, ℕ, ap, inl, refl, sym, arith}
use Rattle.flash_format.specs.Components.{cell_attributes, cell_content}
use Rattle.cbfs_walk.specs.Hashes.{hash_state}
use Rattle.cbfs_walk.specs.declared.hashes.HashState.{HashState}
use Rattle.cbfs_commands.specs.Rows.{hash_line}
use Rattle.cbfs_commands.specs.Outcomes.{Printout, shows}
use Rattle.flash_device.specs.Regions.{bytes_in}
use Rattle.cbfs_walk.specs.Cells.{cell_in}
use Rattle.cbfs_commands.proofs.OutputParts.{so_far-ends, so_far-of, still_cell, printout-part, printout-put, printout-refusal, printout-stopped, printout-within}
use Rattle.cbfs_commands.proofs.print.details.print_details.Goals as goal

abbrev hash_of : List ℕ → Printout
hash_of x = shows (hash_line (hash_state (cell_attributes x) (cell_content x)))

pub returns-in_err-print_attributes : goal.returns-in_err-print_attributes
returns-in_err-print_attributes g c =
    printout-within _ (omega arith) (printout-stopped (λ image. hash_of (cell_in (bytes_in c.args.region image) c.args.cell.now)) c.in_err-print_attributes.ensures c.from_residual.ensures.1)

pub returns-in_err-state : goal.returns-in_err-state
returns-in_err-state g c =
    let rest = λ (image : List ℕ). hash_of (cell_in (bytes_in c.args.region image) c.args.cell.now) in
    so_far-ends (so_far-of rest c.in_ok-print_attributes.ensures) _ (printout-refusal rest c.from_residual-in_err-state.ensures.1 c.in_err-state.ensures.calls.read (λ e. cc) (λ e. cc) (λ h. inl refl)) (λ h. refl) (omega arith)

pub returns-in_err-put_all : goal.returns-in_err-put_all
returns-in_err-put_all g c =
    let ended = so_far-of (λ image. hash_of (cell_in (bytes_in c.args.region image) c.args.cell.now)) c.in_ok-print_attributes.ensures in
    let hash = c.in_ok-state.ensures in
    let still = still_cell c.print_attributes.ensures.read c.requires.cell in
    let put = c.in_err-put_all.ensures in
    let row = printout-part hash.calls.read _ put.cause (rw (c.as_slice.ensures.value, c.set_hash_row.ensures) at put.part) c.from_residual-in_err-put_all.ensures.1 (λ image. shows []) in
    so_far-ends ended _ row (λ h. rw append-nil (ap (λ (state : HashState). shows (hash_line state)) (sym (hash.state h (still.stands h))))) (omega arith)

pub returns : goal.returns
returns g c =
    let ended = so_far-of (λ image. hash_of (cell_in (bytes_in c.args.region image) c.args.cell.now)) c.in_ok-print_attributes.ensures in
    let hash = c.in_ok-state.ensures in
    let still = still_cell c.print_attributes.ensures.read c.requires.cell in
    let put = c.in_ok-put_all.ensures in
    let row = printout-put hash.calls.read put.faults (rw (c.as_slice.ensures.value, c.set_hash_row.ensures) at put.put) in
    so_far-ends ended _ row (λ h. ap (λ (state : HashState). shows (hash_line state)) (sym (hash.state h (still.stands h)))) (omega arith)
