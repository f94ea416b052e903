use Rattle.std.proofs.Common.{arith}
use Rattle.std.proofs.lemmas.Bool.{eq-eqb}
use Rattle.std.proofs.lemmas.Grind.{common_steps}
use Rattle.flash_device.proofs.BytesLemmas.{overwritten-same}
use Rattle.flash_device.proofs.DeviceLemmas.{length-bytes_in}
use Rattle.cbfs_commands.specs.Effects.{effect}
use Rattle.cbfs_commands.proofs.OwnResults.{no_fault, own_answer}
use Rattle.cbfs_commands.proofs.RegionOutcomes.{each}
use Rattle.cbfs_commands.proofs.RegionPlaces.{region_lies}
use Rattle.cbfs_commands.proofs.laws.outcomes_depend_on_bytes.Goals as goal

pub returns : goal.returns
returns c = record { faultless = λ r image source. no_fault ((effect r).outcome image source).printout.answer (own_answer r image source); written_back = λ image name bytes printout. grind (arith, common_steps, eq-eqb, length-bytes_in, overwritten-same, region_lies); of_region = λ name task region image other source here there same. let both = each name region image other here there same task source in record { printout = both.0; bytes = both.1 } }
