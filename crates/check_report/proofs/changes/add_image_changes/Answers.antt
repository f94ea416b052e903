use Rattle.std.proofs.Common.{◌∙◌, ap}
use Rattle.check_report.specs.Rows.{with_count, with_number}
use Rattle.check_report.proofs.SoundRows.{adds_after, adds_before, adds_failed}
use Rattle.check_report.proofs.changes.add_image_changes.Goals as goal

pub returns : goal.returns
returns g c = adds_after
    (rw (c.number.ensures ∙ ap (with_number c.args.old_len) c.row-resized.ensures) at c.in_ok-add_if.ensures)
    (rw (c.count.ensures ∙ ap (with_count c.from.result) c.row-differ.ensures, c.from.ensures) at c.add_if-2.ensures)

pub returns-in_err-add_if : goal.returns-in_err-add_if
returns-in_err-add_if g c = adds_failed c.from_residual.ensures.1
    (adds_before _ (rw (c.number.ensures ∙ ap (with_number c.args.old_len) c.row-resized.ensures) at c.in_err-add_if.ensures))
