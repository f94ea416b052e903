use Rattle.std.proofs.Common.{refl}
use Rattle.cbfs_walk.proofs.Parts.{part-in}
use Rattle.cbfs_walk.proofs.ReadSequences.{Passes-seen}
use Rattle.cbfs_walk.proofs.region_reads.piece_in.Goals as goal

pub returns : goal.returns
returns g c = (
  (refl, λ p. tt, Passes-seen c.requires.reach.region c.requires.reach.inside c.requires.short (rw c.start.ensures at c.piece.follows.holds-at-none)),
  record {
    passes = tt;
    size = c.piece.ensures.size;
    read = λ h. rw (c.start.ensures, part-in c.args.paged.now.device.content c.args.region c.args.at c.args.n c.requires.reach.inside) at (c.piece.ensures.read h);
  },
)
