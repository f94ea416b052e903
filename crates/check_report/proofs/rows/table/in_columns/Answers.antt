use Rattle.std.proofs.Common.{◌+◌}
use Rattle.std.proofs.lemmas.List.{take_rest}
use Rattle.check_report.proofs.TableLines.{laid_more}
use Rattle.check_report.proofs.rows.table.in_columns.Goals as goal

pub loop-i-preserved : goal.loop-i-preserved
loop-i-preserved c =
    let cells = c.args.cells.now in
    rw (c.in_ok-push_gap_before.ensures, c.in_ok-push.ensures, c.as_slice-cell.ensures.value, c.width_at.ensures, take_rest cells (c.loop-i.i + 1))
    (rw (← c.index-cells-i.is) at (laid_more (λ cell. cell.items) c.args.widths.now cells c.loop-i.i c.index-cells-i.result _ _ c.loop-i-test.true c.loop-i.invariant))
