use Rattle.std.proofs.Common.{◌≡◌, [], ◌∷◌, Ok, refl, arith}
use Rattle.std.proofs.lemmas.List.Elements.{All-head}
use lib.Chars.{codes}
use Rattle.flash_format.specs.Flashmap.{area_of, areas_from, fmap_head_of, has_signature, is_map, is_valid_head}
use Rattle.flash_device.specs.Regions.{Range, bytes_in}
use Rattle.cbfs_anchor.specs.Samples.{small_map}
use Rattle.cbfs_edit.specs.Changes.{IsOneFreeCell}
use Rattle.cbfs_commands.specs.Creations.{created_image, plan_for}
use Rattle.cbfs_commands.specs.Samples.{small_plan}
use Rattle.cbfs_commands.proofs.numbers.a_planned_region_is_free.Goals as goal

planned : plan_for 320 (codes "COREBOOT" ∷ []) small_map ≡ Ok small_plan
unfolding plan_for is_map has_signature is_valid_head fmap_head_of areas_from area_of small_map
planned = refl

pub returns : goal.returns
returns c =
    let laid = c.plans_are_sound.ensures 320 (codes "COREBOOT" ∷ []) small_map small_plan planned in
    All-head (λ (place : Range). IsOneFreeCell (bytes_in place (created_image 320 small_plan small_map))) (record { start = 192; size = 64 }) [] (laid.free (omega arith))
