use Rattle.std.proofs.Common.{[], refl, ◌∙◌, arith}
use Rattle.flash_device.specs.Regions.{LiesIn}
use Rattle.cbfs_anchor.specs.Layout.{digests_range}
use Rattle.cbfs_anchor.specs.Samples.{small_anchor, small_image, small_map, small_place}
use Rattle.cbfs_anchor.proofs.SmallImage.{entry_bytes, its_length, map_bytes, well_placed}
use Rattle.cbfs_anchor.proofs.numbers.a_seal_keeps_map_and_entry.Goals as goal

its_digests : LiesIn (digests_range small_anchor) small_image
its_digests = omega (arith, its_length)

pub returns-clause-map : goal.returns-clause-map
returns-clause-map c = c.seals_keep_map_and_components.ensures.map small_place small_anchor [] small_map small_image its_digests well_placed ∙ map_bytes

pub returns-clause-entry : goal.returns-clause-entry
returns-clause-entry c = c.seals_keep_map_and_components.ensures.components small_place small_anchor [] small_map small_image its_digests well_placed refl ∙ entry_bytes
