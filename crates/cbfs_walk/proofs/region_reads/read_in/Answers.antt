use Rattle.std.proofs.Common.{ap, ◌+◌}
use Rattle.cbfs_walk.proofs.Parts.{read_part}
use Rattle.cbfs_walk.proofs.ReadSequences.{Passes-seen}
use Rattle.cbfs_walk.proofs.region_reads.read_in.Goals as goal

pub returns : goal.returns
returns g c = record {
  passed = Passes-seen c.requires.reach.region c.requires.reach.inside c.requires.short (rw c.start.ensures at c.read_small.ensures.after);
  value = λ h. read_part c.read_small.result _ _ c.args.region _ c.args.at _ (c.read_small.ensures.read h) (ap (λ s. s + c.args.at) c.start.ensures) c.requires.reach.inside;
}
