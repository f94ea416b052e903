use Rattle.flash_format.proofs.MapLaws.{map_lowest}
use Rattle.flash_format.proofs.laws.maps_are_the_lowest.Goals as goal

pub returns : goal.returns
returns c = map_lowest
