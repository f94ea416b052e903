use Rattle.std.proofs.Common.{arith, ◌+◌, ◌*◌}
use Rattle.flash_map.proofs.FmapLemmas.{area_read}
use Rattle.flash_map.proofs.search.area_in_source.Goals as goal

pub returns-clause-area : goal.returns-clause-area
returns-clause-area g c = λ h. area_read _ _ (56 + 42 * c.from.result) (56 + 42 * c.args.i) _ c.read.ensures (c.in_ok-read_at.ensures.after.read h) (omega (arith, c.from.ensures))
