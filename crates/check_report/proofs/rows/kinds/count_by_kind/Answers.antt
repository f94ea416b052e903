use Rattle.std.proofs.Common.{◌≡◌, ◌∙◌, ◌<◌, ◌≤◌, length, ap, arith, refl, sym}
use Rattle.std.proofs.lemmas.List.{get_or_default}
use Rattle.check_report.specs.Rows.{seen_row}
use Rattle.check_report.proofs.RowCounts.{found, none_passed, passed_more}
use Rattle.check_report.proofs.rows.kinds.count_by_kind.Goals as goal

pub loop-i-preserved : goal.loop-i-preserved
loop-i-preserved c =
    let inv = c.loop-i.invariant in
    let lt : c.loop-i.i < length c.args.kinds.now.items = omega (arith, ap length inv.same) in
    record { same = inv.same; passed = passed_more _ _ _ c.index.result.now lt (rw inv.same at c.index.ensures) (sym c.is_of.ensures ∙ c.if-is_of.false) inv.passed }

pub returns-then-is_of : goal.returns-then-is_of
returns-then-is_of c =
    let inv = c.loop-i.invariant in
    let lt : c.loop-i.i < length c.args.kinds.now.items = omega (arith, ap length inv.same) in
    let here = rw inv.same at c.index.ensures in
    let same : c.index_mut.result.now ≡ c.index.result.now = rw inv.same at c.index_mut.ensures.value ∙ get_or_default _ _ _ _ lt ∙ sym here in
    rw (inv.same, same) (found (seen_row c.args.row.now) _ _ _ _ lt here (sym c.is_of.ensures ∙ c.if-is_of.true) inv.passed c.in_ok-kinds.ensures)

pub returns : goal.returns
returns c =
    let all : length c.args.kinds.now.items ≤ c.loop-i.i = omega arith in
    rw (rw c.loop-i.invariant.same at c.in_ok-push.ensures.items) (none_passed (seen_row c.args.row.now) _ _ _ all refl c.loop-i.invariant.passed)
