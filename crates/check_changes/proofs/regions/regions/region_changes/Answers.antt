use Rattle.std.proofs.Common.{ℕ, ap}
use Rattle.check_changes.specs.declared.images.Both.{Both}
use Rattle.check_changes.proofs.RegionLemmas.{changing_all, changing_more, changing_start, reads_all, reads_stopped}
use Rattle.check_changes.proofs.ImageLemmas.{both-handed}
use Rattle.check_changes.proofs.regions.regions.region_changes.Goals as goal

pub loop-finding-init : goal.loop-finding-init
loop-finding-init g c = changing_start _ _ _ _ _ (ap (λ (l : Both ℕ). l.old) c.lengths-left.ensures.lengths) c.new-changes.ensures.items

pub loop-finding-preserved : goal.loop-finding-preserved
loop-finding-preserved g c =
    let read = rw c.finding-item.is at c.in_ok-push_changes.ensures.calls in
    let more = rw c.finding-item.is at c.in_ok-push_changes.ensures.changes in
    changing_more _ _ _ c.loop-finding.invariant c.loop-finding-test.true c.in_ok-push_changes.ensures.fewer read more

pub returns-in_err-push_changes-clause-calls : goal.returns-in_err-push_changes-clause-calls
returns-in_err-push_changes-clause-calls g c =
    let read = rw c.finding-item.is at c.in_err-push_changes.ensures.calls in
    both-handed _ _ c.from_residual-in_err-push_changes.ensures.1 (reads_stopped _ _ _ _ c.requires.total c.loop-finding.invariant c.loop-finding-test.true c.in_err-push_changes.ensures.fewer read)

pub returns-clause-calls : goal.returns-clause-calls
returns-clause-calls g c = reads_all _ _ c.requires.total c.loop-finding.invariant

pub returns-clause-changes : goal.returns-clause-changes
returns-clause-changes g c = changing_all _ _ c.loop-finding.invariant c.loop-finding-test.false _ c.in_ok-olds.ensures
