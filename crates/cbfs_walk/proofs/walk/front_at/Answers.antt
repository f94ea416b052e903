use Rattle.std.proofs.lemmas.Grind.{common_steps}
use Rattle.std.proofs.Common.{arith}
use Rattle.cbfs_walk.proofs.Parts.{front_read, length-region}
use Rattle.cbfs_walk.proofs.ReadSequences.{Passes-none}
use Rattle.cbfs_walk.proofs.walk.front_at.Goals as goal

pub returns : goal.returns
returns g c =
    let size = length-region c.args.region c.args.paged.now.device.content c.requires.region.inside in
    record {
      passed = c.in_ok-read_in.ensures.passed;
      value = λ h. front_read _ c.args.at _ _ c.read.ensures (c.in_ok-read_in.ensures.value h) (omega (arith, size, c.requires.inside, c.if-size-at-lt24.false, c.size.ensures));
    }

pub returns-then-size-at-lt24 : goal.returns-then-size-at-lt24
returns-then-size-at-lt24 g c = record { passed = Passes-none c.args.region c.args.at _; value = grind (arith, common_steps, length-region) }
