use Rattle.std.proofs.Common.{◌≡◌, ◌++◌, get_or}
use Rattle.flash_device.specs.Regions.{bytes_in}
use Rattle.check_changes.specs.Components.{new_changes}
use Rattle.check_changes.proofs.AreaLemmas.ChangeSteps.{flat_map-all, flat_map-more}
use Rattle.check_changes.proofs.ComponentLemmas.ChangeLemmas.{reads_all, reads_more, spans_part}
use Rattle.check_changes.proofs.ImageLemmas.{both-handed, both-within, OnBoth-before}
use Rattle.check_changes.proofs.components.region_comparison.push_changes.Goals as goal

pub returns-in_err-push_changes_of-clause-calls : goal.returns-in_err-push_changes_of-clause-calls
returns-in_err-push_changes_of-clause-calls g c =
    let new = c.args.lists.now.new in
    let step = rw c.listed-item.is at c.in_err-push_changes_of.ensures.calls in
    both-handed _ _ c.from_residual.ensures.1 (reads_all _ new.all.now new.cells c.loop-listed.listed-index c.listed-item.result c.loop-listed-test.true c.loop-listed.invariant.read step)

pub loop-listed-preserved : goal.loop-listed-preserved
loop-listed-preserved g c =
    let had = c.loop-listed.invariant in
    let lists = c.args.lists.now in
    let item = c.listed-item.result in
    let i = c.loop-listed.listed-index in
    let step = rw c.listed-item.is at c.in_ok-push_changes_of.ensures.calls in
    let more = rw c.listed-item.is at c.in_ok-push_changes_of.ensures.changes in
    let is = OnBoth-before (λ x y. c.push_changes_of.new.changes.items ≡ c.loop-listed.changes.items
    ++ new_changes (bytes_in lists.old.region x) (bytes_in lists.new.region y) lists.old.all.now lists.new.all.now (get_or lists.new.all.now i item)) had.read more in
    record {
      read = reads_more _ lists.new.all.now lists.new.cells i item c.loop-listed-test.true had.read step;
      changes = λ h k. flat_map-more _ lists.new.all.now i _ _ _ _ c.loop-listed-test.true (is h k) (had.changes h k);
    }

pub returns-clause-calls : goal.returns-clause-calls
returns-clause-calls g c =
    let few = spans_part c.args.lists.now.new.all.now c.loop-listed.listed-index in
    both-within _ _ few few c.loop-listed.invariant.read

pub returns-clause-changes : goal.returns-clause-changes
returns-clause-changes g c = λ h k. flat_map-all _ c.args.lists.now.new.all.now c.loop-listed.listed-index _ _ c.loop-listed-test.false (c.loop-listed.invariant.changes h k)
