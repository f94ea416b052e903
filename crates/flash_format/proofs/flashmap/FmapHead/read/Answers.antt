use Rattle.std.proofs.Common.{rules}
use Rattle.flash_format.specs.Flashmap.{fmap_head_of, has_signature}
use Rattle.flash_format.proofs.flashmap.FmapHead.read.Goals as goal

pub returns : goal.returns
unfolding fmap_head_of has_signature
returns c = search rules
