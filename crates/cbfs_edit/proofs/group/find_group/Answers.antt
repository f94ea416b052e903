use Rattle.std.proofs.Common.{refl, arith, rules}
use Rattle.std.proofs.lemmas.Result.{IfErr-weaker, IfOk-weaker, err_from_is_err_and}
use Rattle.cbfs_edit.specs.Removals.{removal_in}
use Rattle.cbfs_edit.specs.Searches.{IsBefore, group_by}
use Rattle.cbfs_edit.proofs.Searches.{surveying_start, surveying_more, searched, surveying_err, group_searched}
use Rattle.cbfs_edit.proofs.group.find_group.Goals as goal

pub loop-cell-init : goal.loop-cell-init
loop-cell-init g c = rw c.new-walk.ensures (surveying_start c.args.region (group_by c.args.name.now) (λ x. removal_in x c.args.name.now) IsBefore _ _ (omega arith, refl) (group_searched _ c.args.name.now))

pub loop-cell-preserved : goal.loop-cell-preserved
loop-cell-preserved g c =
    surveying_more c.args.region (group_by c.args.name.now) _ IsBefore c.loop-cell.walk c.loop-cell.search _ _ c.requires c.loop-cell.invariant c.in-Cell.cell _ c.in_ok-search-in-Cell.search _ _ _
    (rw c.in-Cell.is at c.in_ok-cell.ensures.cell) (rw c.in-Cell.is at c.in_ok-cell.ensures.calls) refl c.in_ok-search-in-Cell.ensures.calls.read (rw c.in-Cell.is at c.in_ok-cell.ensures.answer) (rw c.in-Cell.is at c.in_ok-cell.ensures.moved) c.in_ok-search-in-Cell.ensures.before c.in_ok-search-in-Cell.ensures.passed

pub returns-in-Tail : goal.returns-in-Tail
returns-in-Tail g c =
    searched c.args.region (group_by c.args.name.now) _ _ c.loop-cell.walk c.loop-cell.search _ _ c.requires c.loop-cell.invariant _ c.in-Tail.is _ _ c.group_in.result (IfErr-weaker c.group_in.result _ _ (λ fault is. rw is tt) c.group_in.ensures.fault)
    (IfOk-weaker c.group_in.result _ _ (λ group within. search rules) (c.group_in.ensures.group c.loop-cell.walk.at c.loop-cell.invariant.before))
    (c.group_in.ensures.is c.args.name.now _) c.in_ok-cell.ensures.calls c.in_ok-cell.ensures.answer

pub returns-in_err-cell : goal.returns-in_err-cell
returns-in_err-cell g c =
    let told = err_from_is_err_and c.from_residual.result c.from_residual.ensures.1 in
    rw (told.1, told.2) (record {
      after = search rules;
      no_source = search rules;
      found = search rules;
      answer = surveying_err c.args.region (group_by c.args.name.now) _ _ c.loop-cell.walk c.loop-cell.search _ _ c.requires c.loop-cell.invariant c.in_err-cell.field-0.0 c.in_err-cell.ensures.answer;
    })
