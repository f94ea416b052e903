use Rattle.std.proofs.lemmas.Grind.{common_steps}
use Rattle.std.proofs.Common.{arith, le_refl, sym, ◌∙◌, None}
use Rattle.flash_device.proofs.DeviceLemmas.{honest_still}
use Rattle.cbfs_walk.proofs.ReadSequences.{ReadsIn-refused, Passes-then, Passes-within}
use Rattle.cbfs_walk.proofs.Digests.{stored_by, stored_whole, stored_short}
use Rattle.cbfs_walk.proofs.hashes.stored_digest.Goals as goal

pub returns-in_default : goal.returns-in_default
returns-in_default g c = record {
  passed = Passes-within c.in_ok-number.ensures.passed (le_refl _) (omega arith);
  value = λ h. stored_by c.args.region c.args.paged.now.device.content c.args.at c.args.n c.in_ok-number.number c.requires.reach.region.inside c.requires.reach.inside c.requires.least (c.in_ok-number.ensures.value h) None (sym c.in_default.is ∙ c.numbered.ensures);
}

pub returns-then-n-len : goal.returns-then-n-len
returns-then-n-len g c = record {
  passed = Passes-within c.in_ok-number.ensures.passed (le_refl _) (omega arith);
  value = λ h. stored_short c.args.region c.args.paged.now.device.content c.args.at c.args.n c.in_ok-number.number c.requires.reach.region.inside c.requires.reach.inside c.requires.least (c.in_ok-number.ensures.value h) c.in-Some.algorithm (sym c.in-Some.is ∙ c.numbered.ensures) (omega (arith, c.if-n-len.true, c.digest_len-len.ensures));
}

pub returns-in_err-bytes : goal.returns-in_err-bytes
returns-in_err-bytes g c = ReadsIn-refused _ _ c.from_residual-in_err-bytes.ensures.1 (Passes-then c.in_ok-number.ensures.passed (rw c.in_err-bytes.was at c.piece_in.follows.holds-at-none) (le_refl _) (omega arith) (omega (arith, c.if-n-len.false)))

pub returns : goal.returns
returns g c = record {
  passed = Passes-then c.in_ok-number.ensures.passed (rw c.in_ok-bytes.was at c.piece_in.follows.holds-at-none) (le_refl _) (omega arith) (omega (arith, c.if-n-len.false));
  value = grind (arith, common_steps, honest_still, stored_whole);
}
