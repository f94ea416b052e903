use Rattle.std.proofs.Common.{inr, rules}
use Rattle.std.proofs.lemmas.Result.{err_from_is_err_and}
use Rattle.cbfs_walk.proofs.SearchSteps.{searching_start, searching_more, found_first, last_after, last_answer, searching_err}
use Rattle.cbfs_walk.proofs.search.find.Goals as goal

pub returns-then-branch-clause-calls : goal.returns-then-branch-clause-calls
returns-then-branch-clause-calls g c = search rules

pub loop-cell-init : goal.loop-cell-init
loop-cell-init g c = rw c.new-walk.ensures (searching_start c.args.region c.args.name.now _)

pub loop-cell-preserved : goal.loop-cell-preserved
loop-cell-preserved g c =
    searching_more c.args.region c.args.name.now c.loop-cell.walk _ _ c.requires c.loop-cell.invariant _ c.in-Cell.cell _ c.in_ok-is_component-in-Cell.field-0 c.in-Cell.is
    c.in_ok-cell.ensures.cell c.in_ok-cell.ensures.calls c.in_ok-cell.ensures.answer c.in_ok-is_component-in-Cell.ensures.named _ _ c.if-branch.false c.in_ok-cell.ensures.moved c.in_ok-is_component-in-Cell.ensures.calls.read

pub returns-then-branch-clause-answer : goal.returns-then-branch-clause-answer
returns-then-branch-clause-answer g c = λ h.
    inr (found_first c.args.region c.args.name.now c.loop-cell.walk _ _ c.requires c.loop-cell.invariant _ c.in-Cell.cell _ c.in_ok-is_component-in-Cell.field-0 c.in-Cell.is
    c.in_ok-cell.ensures.cell c.in_ok-cell.ensures.calls c.in_ok-cell.ensures.answer c.in_ok-is_component-in-Cell.ensures.named c.if-branch.true h)

pub returns-in-Tail : goal.returns-in-Tail
returns-in-Tail g c =
    record {
      calls = last_after c.args.region c.args.name.now c.loop-cell.walk _ _ c.requires c.loop-cell.invariant _ c.in-Tail.is _ c.in_ok-cell.ensures.calls;
      found = tt;
      cell = tt;
      answer = λ h. inr (last_answer c.args.region c.args.name.now c.loop-cell.walk _ _ c.requires c.loop-cell.invariant _ c.in-Tail.is c.in_ok-cell.ensures.answer h);
      stands = λ h. tt;
    }

pub returns-in_err-cell-clause-answer : goal.returns-in_err-cell-clause-answer
returns-in_err-cell-clause-answer g c = λ h.
    let told = err_from_is_err_and c.from_residual.result c.from_residual.ensures.1 in
    rw (told.1, told.2) (searching_err c.args.region c.args.name.now c.loop-cell.walk _ _ c.requires c.loop-cell.invariant c.in_err-cell.field-0.0 c.in_err-cell.ensures.answer h)
