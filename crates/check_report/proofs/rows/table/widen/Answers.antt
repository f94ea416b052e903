use Rattle.std.proofs.Common.{◌∙◌, ◌<◌, ap, arith, length}
use Rattle.std.specs.Prelude.{max, get_or}
use Rattle.check_report.proofs.TableLines.{widening_more, widening_end}
use Rattle.check_report.proofs.rows.table.widen.Goals as goal

pub loop-i-preserved : goal.loop-i-preserved
loop-i-preserved c =
    let lt : c.loop-i.i < length c.loop-i.widths = omega (arith, c.loop-i.invariant.same, c.loop-i-test.true) in
    widening_more _ _ _ _ _ 0 lt (c.max.ensures ∙ ap (max (get_or c.loop-i.widths c.loop-i.i 0)) c.length_at.ensures) c.loop-i.invariant

pub returns : goal.returns
returns c = widening_end _ _ _ _ (omega (arith, c.loop-i.invariant.same, c.loop-i-test.false)) c.loop-i.invariant
