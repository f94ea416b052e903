use Rattle.std.proofs.Common.{◌≡◌, ◌*◌, ◌++◌, arith, length, sym}
use Rattle.check_changes.specs.Areas.{area_changes, area_changes_in}
use Rattle.check_changes.proofs.AreaLemmas.ChangeSteps.{pushed-both}
use Rattle.check_changes.proofs.ImageLemmas.{OnBoth-before}
use Rattle.check_changes.proofs.areas.areas.image_changes.Goals as goal

pub returns-in_err-push_changes-clause-calls : goal.returns-in_err-push_changes-clause-calls
returns-in_err-push_changes-clause-calls g c = grind arith

pub returns-clause-calls : goal.returns-clause-calls
returns-clause-calls g c = grind arith

pub returns-clause-areas : goal.returns-clause-areas
unfolding area_changes
returns-clause-areas g c = λ h k.
    let held = c.in_ok-holders.holders.pairs.now in
    let pushed = OnBoth-before (λ x y. c.push_changes.new.changes.items ≡ c.new-areas.result.items ++ area_changes_in x y held (8 * length y) held) c.in_ok-blocks.ensures.calls c.in_ok-push_changes.ensures.changes h k in
    rw (sym c.in_ok-of.ensures, sym c.in_ok-of-2.ensures) (pushed-both _ _ _ _ _ c.new-areas.ensures.items (rw (c.in_ok-holders.ensures.0, c.deref.ensures.value, c.in_ok-pairs.ensures.found) at pushed) c.in_ok-push_gone.ensures)
