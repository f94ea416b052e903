use Rattle.flash_map.proofs.WrittenMaps.{maps_found}
use Rattle.flash_map.proofs.laws.written_maps_are_found.Goals as goal

pub returns : goal.returns
returns c = maps_found
