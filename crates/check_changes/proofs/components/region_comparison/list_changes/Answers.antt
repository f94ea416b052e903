use Rattle.check_changes.specs.Components.{changes_between}
use Rattle.check_changes.proofs.AreaLemmas.ChangeSteps.{pushed-both}
use Rattle.check_changes.proofs.ImageLemmas.{both-handed}
use Rattle.check_changes.proofs.components.region_comparison.list_changes.Goals as goal

pub returns-clause-changes : goal.returns-clause-changes
unfolding changes_between
returns-clause-changes g c = λ h k.
    let old = c.in_ok-with_firsts.ensures in
    let new = c.in_ok-with_firsts-2.ensures in
    pushed-both _ _ _ _ _ c.new-changes.ensures.items (rw (old.0, new.0, old.1, new.1) at (c.in_ok-push_changes.ensures.changes h k)) (rw (old.1, new.1) at c.in_ok-push_removed.ensures)

pub returns-in_err-push_changes-clause-calls : goal.returns-in_err-push_changes-clause-calls
returns-in_err-push_changes-clause-calls g c = both-handed _ _ c.from_residual-in_err-push_changes.ensures.1 (rw c.in_ok-with_firsts-2.ensures.1 at c.in_err-push_changes.ensures.calls)

pub returns-clause-calls : goal.returns-clause-calls
returns-clause-calls g c = rw c.in_ok-with_firsts-2.ensures.1 at c.in_ok-push_changes.ensures.calls
