use Rattle.std.proofs.Common.{◌≡◌, ◌-◌, ◌∙◌, take, ap, subst, arith, le_refl}
use Rattle.std.specs.Prelude.{slice_range}
use Rattle.std.proofs.lemmas.List.{take_all}
use Rattle.flash_device.specs.Regions.{bytes_in}
use Rattle.cbfs_walk.proofs.Parts.{length-region}
use Rattle.cbfs_walk.proofs.ReadSequences.{ReadsIn-refused, Passes-within}
use Rattle.cbfs_walk.proofs.AttributeScans.{scanned, scanning_start}
use Rattle.cbfs_walk.proofs.Digests.{taking_more}
use Rattle.cbfs_anchor.specs.Algorithms.{Holds}
use Rattle.cbfs_anchor.proofs.metadata.hash_range.Goals as goal

pub loop-at-init : goal.loop-at-init
loop-at-init g c = (scanning_start c.args.range 0 c.size-end.result c.args.paged.now _ (omega arith) (λ h. c.new-hasher.ensures.empty), c.new-hasher.ensures.algorithm)

pub loop-at-preserved : goal.loop-at-preserved
loop-at-preserved g c =
    let passes = rw c.in_ok-bytes.was at c.piece_in.follows.holds-at-none in (
      taking_more Holds c.args.range _ _ c.loop-at.at c.min-n.result _ _ _ c.loop-at.hasher c.update.new.self _ c.loop-at.invariant.0 (omega (arith, c.min-n.ensures, c.loop-at-test.true)) passes c.in_ok-bytes.ensures.read c.update.ensures.more,
      c.update.ensures.algorithm ∙ c.loop-at.invariant.1,
    )

pub returns-in_err-bytes-clause-hashed : goal.returns-in_err-bytes-clause-hashed
returns-in_err-bytes-clause-hashed g c = ReadsIn-refused _ _ c.from_residual.ensures.1 (Passes-within (scanned c.loop-at.invariant.0 (rw c.in_err-bytes.was at c.piece_in.follows.holds-at-none)) (le_refl _) (omega (arith, c.size-end.ensures)))

pub returns-clause-hashed : goal.returns-clause-hashed
returns-clause-hashed g c = record {
  passed = Passes-within c.loop-at.invariant.0.passed (le_refl _) (omega (arith, c.loop-at.invariant.0.high, c.size-end.ensures));
  value = λ h.
      let x = bytes_in c.args.range c.args.paged.now.device.content in
      let all : slice_range x 0 c.loop-at.at ≡ x = ap (λ k. take k x) {x = c.loop-at.at - 0} {y = c.loop-at.at} (omega arith) ∙ take_all c.loop-at.at x (omega (arith, length-region c.args.range c.args.paged.now.device.content c.requires.inside, c.loop-at-test.false, c.size-end.ensures)) in
      subst (Holds c.loop-at.hasher) all (c.loop-at.invariant.0.asked h);
}
