use Rattle.flash_format.proofs.MapBytes.{maps_decode}
use Rattle.flash_format.proofs.laws.maps_are_read_back.Goals as goal

pub returns : goal.returns
returns c = maps_decode
