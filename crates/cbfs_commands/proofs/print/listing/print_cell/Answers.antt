use Rattle.std.proofs.Common.{◌≡◌, ◌∙◌, ◌+◌, ◌/◌, ◌&&◌, not, Bool, false, cond, List, ℕ, [], ap, inl, refl, sym, arith}
use Rattle.flash_device.specs.Regions.{bytes_in}
use Rattle.cbfs_walk.specs.Cells.{cell_in}
use Rattle.flash_format.specs.Head.{head_of, is_free}
use Rattle.flash_format.specs.declared.head.Head.{Head}
use Rattle.cbfs_commands.specs.Rows.{details}
use Rattle.cbfs_commands.specs.Outcomes.{Printout, shows}
use Rattle.cbfs_commands.proofs.OutputParts.{so_far-ends, so_far-more, so_far-none, still_cell, text_then, printout-part, printout-put, printout-refusal, printout-within}
use Rattle.cbfs_commands.proofs.print.listing.print_cell.Goals as goal

abbrev lines : Bool → List ℕ → Printout
lines verbose x = shows (cond (verbose && not (is_free (head_of x))) (details x) [])

pub returns-in_err-set_cell_row : goal.returns-in_err-set_cell_row
returns-in_err-set_cell_row g c = printout-within _ (omega arith) (printout-refusal _ c.from_residual.ensures.1 c.in_err-set_cell_row.ensures.calls.read (λ e. cc) (λ e. cc) (λ h. inl refl))

pub returns-in_err-put_all : goal.returns-in_err-put_all
returns-in_err-put_all g c =
    let put = c.in_err-put_all.ensures in
    let stopped = printout-part c.in_ok-set_cell_row.ensures.calls.read _ put.cause (rw c.as_slice.ensures.value at put.part) c.from_residual-in_err-put_all.ensures.1 (λ image. lines c.args.verbose (cell_in (bytes_in c.args.region image) c.args.cell.now)) in
    so_far-ends (so_far-none 0 _ _ _ _ (λ image. refl)) _ stopped (λ h. ap (λ (row : List ℕ). text_then row (lines c.args.verbose (cell_in (bytes_in c.args.region c.args.paged.now.device.content) c.args.cell.now))) (sym (c.in_ok-set_cell_row.ensures.row h))) (omega arith)

pub returns-then-not-is_free : goal.returns-then-not-is_free
returns-then-not-is_free g c =
    let r = c.args.region in
    let cell = c.args.cell.now in
    let mid = c.set_cell_row.new.paged.device.content in
    let set = c.in_ok-set_cell_row.ensures in
    let put = c.in_ok-put_all.ensures in
    let here = still_cell set.calls.read c.requires in
    let row = printout-put set.calls.read put.faults (rw c.as_slice.ensures.value at put.put) in
    let rest = so_far-more (so_far-none 0 _ _ _ _ (λ image. refl)) (2 + cell.span / 3840) (λ image. lines c.args.verbose (cell_in (bytes_in r image) cell)) row (λ h. ap (λ (text : List ℕ). text_then text (lines c.args.verbose (cell_in (bytes_in r c.args.paged.now.device.content) cell))) (sym (set.row h))) (omega arith) in
    so_far-ends rest _ c.print_details.ensures (λ h.
    let known = c.cells_stand_in_their_image.ensures r mid cell here.region.inside here.cell (here.stands h) in
    let used : is_free (head_of (cell_in (bytes_in r mid) cell)) ≡ false = ap (λ (head : Head). is_free head) known.head ∙ sym c.if-not-is_free.ensures in
    rw (c.if-verbose.true, used) refl) (rw c.if-verbose.true (omega (arith, c.requires.cell.content)))
