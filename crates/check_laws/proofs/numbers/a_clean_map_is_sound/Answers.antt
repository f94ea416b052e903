use Rattle.std.proofs.Common.{sym}
use Rattle.check_laws.specs.Samples.{small_found, small_image}
use Rattle.check_laws.proofs.SmallImage.{only_the_map}
use Rattle.check_laws.proofs.numbers.a_clean_map_is_sound.Goals as goal

pub returns-clause-size : goal.returns-clause-size
returns-clause-size c = sym (c.clean_maps_are_sound.ensures small_image small_found only_the_map).size

pub returns-clause-held : goal.returns-clause-held
returns-clause-held c = (c.clean_maps_are_sound.ensures small_image small_found only_the_map).held
