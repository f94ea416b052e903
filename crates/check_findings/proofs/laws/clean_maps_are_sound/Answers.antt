use Rattle.check_findings.proofs.MapLemmas.Sound.{sound}
use Rattle.check_findings.proofs.laws.clean_maps_are_sound.Goals as goal

pub returns : goal.returns
returns c = sound
