-- Slots of vboot whose signed bytes an update changes, but not their signatures. The same
-- signatures can't be right for both images, so the firmware refuses the slot of the new one if it
-- accepts that of the old one. (Signatures of RSA are not computed.)
use Rattle.std.specs.Prelude.{ℕ, Bool, false, not, ◌&&◌, List, ◌++◌, Option, Some, None, length, nat_le}
use Rattle.std.specs.Prelude.{slice_get, take, if◌then◌else◌}
use Rattle.std.specs.List.{filter_map}
use Rattle.std.specs.Option.{option_and_then, option_map, option_map_or}
use Rattle.std.specs.Str.{bytes_eq}
use Rattle.flash_device.specs.Regions.{Range, bytes_in}
use Rattle.check_changes.specs.declared.images.Both.{Both}
use Rattle.check_findings.specs.Lists.{only_if}
use Rattle.check_findings.specs.declared.areas.NumberedArea.{NumberedArea}
use Rattle.board_structures.specs.declared.signed_slot.SignedSlot.{SignedSlot}
use Rattle.board_structures.specs.declared.signed_slot.SignedSlot.TheVariants as signed
use Rattle.board_findings.specs.BoardFindings.{block_name, body_name}
use Rattle.board_findings.specs.Components.{range_named}
use Rattle.board_findings.specs.declared.finding.BoardFinding.{BoardFinding}
use Rattle.board_findings.specs.declared.finding.BoardFinding.TheVariants as found
use Rattle.board_findings.specs.declared.finding.Slot.{Slot}
use Rattle.board_findings.specs.declared.finding.Slot.TheVariants as slots
use Rattle.board_findings.specs.Structures.{is_slot}
use Rattle.check_report.specs.declared.rows.row.Verdict.TheVariants.{Bad}
use Rattle.check_report.specs.Rows.{SeenRow, in_area, row}

-- an image with the areas of a flash map
pub record Mapped : Type 0 where
  pub image : List ℕ
  pub areas : List NumberedArea

abbrev pub mapped : List ℕ → List NumberedArea → Mapped
mapped image areas = record { image = image; areas = areas }

-- the bytes of the first area with this name, if it lies inside the image
abbrev pub bytes_named : Mapped → List ℕ → Option (List ℕ)
bytes_named m name =
    option_map (λ r. bytes_in r m.image) (range_named (length m.image) m.areas name)

-- the ranges of the first areas with this name in maps of images of these lengths, if both lie
-- inside
abbrev pub ranges_named : Both ℕ → List NumberedArea → List NumberedArea → List ℕ
    → Option (Both Range)
ranges_named lens olds news name = option_and_then (λ old. option_map (λ new.
    record { old = old; new = new }) (range_named lens.new news name))
    (range_named lens.old olds name)

-- both images have the area, and its bytes pass the test
abbrev pub both_pass : (List ℕ → List ℕ → Bool) → Mapped → Mapped → List ℕ → Bool
both_pass test old new name = option_map_or
    (λ x. option_map_or (test x) (bytes_named new name) false) (bytes_named old name) false

-- both have n bytes, and their first n bytes differ
abbrev pub differ_within : ℕ → List ℕ → List ℕ → Bool
differ_within n x y = nat_le n (length x)
    && (nat_le n (length y) && not (bytes_eq (take n x) (take n y)))

-- both images have the same signatures of the slot, and different bytes among the n signed ones
abbrev pub is_outdated : Mapped → Mapped → Slot → ℕ → Bool
is_outdated old new slot n = both_pass bytes_eq old new (block_name slot)
    && both_pass (differ_within n) old new (body_name slot)

-- ---- the signed bytes, by the findings about a board

-- only a sound state says how many bytes of the body are signed
abbrev pub signed_bytes : SignedSlot → Option ℕ
signed_bytes (signed.Sound n) = Some n
signed_bytes _ = None

abbrev pub signed_by : Slot → BoardFinding → Option ℕ
signed_by slot (found.Slot s) = if is_slot slot s.slot then signed_bytes s.state else None
signed_by slot _ = None

-- by the first finding about the slot that says it
abbrev pub signed_in : Slot → List BoardFinding → Option ℕ
signed_in slot findings = slice_get (filter_map (signed_by slot) findings) 0

-- the slot, if it is outdated by the findings about the board of the new image
abbrev pub if_outdated : Mapped → Mapped → List BoardFinding → Slot → List Slot
if_outdated old new findings slot =
    only_if (option_map_or (is_outdated old new slot) (signed_in slot findings) false) slot

abbrev pub outdated_slots : Mapped → Mapped → List BoardFinding → List Slot
outdated_slots old new findings =
    if_outdated old new findings slots.A ++ if_outdated old new findings slots.B

abbrev pub outdated_row : Slot → SeenRow
outdated_row slot = in_area (block_name slot)
    (row Bad "slot-outdated" "signed bytes changed, but not the signatures")
