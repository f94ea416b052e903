use Rattle.std.proofs.Common.{◌≡◌, arith}
use Rattle.flash_device.proofs.DeviceLemmas.{length-bytes_in}
use Rattle.check_changes.specs.Areas.{is_difference}
use Rattle.check_changes.proofs.ComponentLemmas.Reads.{differ-all, same-all, same-more}
use Rattle.check_changes.proofs.ImageLemmas.{both-then, OnBoth-before}
use Rattle.check_changes.proofs.components.comparison.same_bytes.Goals as goal

pub returns-then-branch-clause-same : goal.returns-then-branch-clause-same
returns-then-branch-clause-same g c = λ h k.
    let had = c.loop-number.invariant in
    let is = OnBoth-before (λ x y. c.in_ok-is_different.field-0 ≡ is_difference x y c.args.regions c.loop-number.number) had.read c.in_ok-is_different.ensures.different in
    differ-all _ _ c.loop-number.number _ (is h k) c.if-branch.true

pub loop-number-preserved : goal.loop-number-preserved
loop-number-preserved g c =
    let had = c.loop-number.invariant in
    let is = OnBoth-before (λ x y. c.in_ok-is_different.field-0 ≡ is_difference x y c.args.regions c.loop-number.number) had.read c.in_ok-is_different.ensures.different in
    record {
      read = both-then had.read c.in_ok-is_different.ensures.calls;
      same = λ h k. same-more _ _ c.loop-number.number _ (is h k) c.if-branch.false (had.same h k);
    }

pub returns-clause-same : goal.returns-clause-same
returns-clause-same g c = λ h k.
    let r = c.args.regions in
    let old = length-bytes_in r.old _ c.requires.0.0.inside in
    let new = length-bytes_in r.new _ c.requires.0.1.inside in
    same-all _ _ c.loop-number.number (omega (arith, old, c.requires.1)) (omega (arith, new)) (c.loop-number.invariant.same h k)
