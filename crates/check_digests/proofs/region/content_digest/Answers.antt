use Rattle.std.proofs.lemmas.Grind.{common_steps}
use Rattle.std.proofs.Common.{arith}
use Rattle.sha2.specs.Hashers.{Holds256}
use Rattle.cbfs_walk.proofs.Checks.{content_fits}
use Rattle.cbfs_walk.proofs.ReadSequences.{ReadsIn-refused, Passes-within}
use Rattle.cbfs_walk.proofs.AttributeScans.{scanned, lies_still}
use Rattle.cbfs_walk.proofs.Digests.{taking_more, content_taken}
use Rattle.check_digests.specs.Digests.{content_digest}
use Rattle.check_digests.proofs.region.content_digest.Goals as goal

pub piece_in-requires-clause-reach : goal.piece_in-requires-clause-reach
piece_in-requires-clause-reach g c = record { region = lies_still c.loop-at.invariant c.requires.region; inside = omega (arith, (content_fits c.args.region.size c.args.cell.now c.requires.cell).in_region) }

pub returns-in_err-bytes : goal.returns-in_err-bytes
returns-in_err-bytes g c = ReadsIn-refused _ _ c.from_residual.ensures.1 (Passes-within (scanned c.loop-at.invariant (rw c.in_err-bytes.was at c.piece_in.follows.holds-at-none)) (omega arith) (omega arith))

pub loop-at-preserved : goal.loop-at-preserved
loop-at-preserved g c =
    let passes = rw c.in_ok-bytes.was at c.piece_in.follows.holds-at-none in
    taking_more Holds256 c.args.region _ _ c.loop-at.at c.min-n.result _ _ _ c.loop-at.hasher c.update.new.self _ c.loop-at.invariant (omega (arith, c.min-n.ensures, c.loop-at-test.true)) passes c.in_ok-bytes.ensures.read c.update.ensures

pub returns : goal.returns
unfolding content_digest
returns g c = record {
  passed = Passes-within c.loop-at.invariant.passed (omega arith) (omega (arith, c.loop-at.invariant.high));
  value = grind (arith, common_steps, content_taken);
}
