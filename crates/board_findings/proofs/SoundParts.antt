-- Parts of findings without a bad one.
use Rattle.std.proofs.Common.{◌≡◌, ◌∙◌, ◌⊎◌, inl, inr, ℕ, ◌+◌, Bool, true, false, ◌||◌, ◌&&◌, List, [], ◌∷◌, ◌++◌, Option, Some, None, refl, sym, length}
use Rattle.std.specs.Prelude.{◌==◌, if◌then◌else◌}
use Rattle.std.specs.List.{find, list_any}
use Rattle.std.specs.Option.{option_map, option_map_or, option_to_list}
use Rattle.std.proofs.lemmas.Bool.{eq-eqb}
use lib.Chars.{codes}
use Rattle.std.proofs.lemmas.List.Folds.{list_any-append}
use Rattle.flash_device.specs.Regions.{Range, bytes_in}
use Rattle.check_findings.specs.Lists.{only_if}
use Rattle.check_findings.specs.declared.areas.NumberedArea.{NumberedArea}
use Rattle.board_structures.specs.Descriptors as descriptors
use Rattle.board_structures.specs.Descriptors.{descriptor_in, difference_in}
use Rattle.board_structures.specs.FirmwareTables.{firmware_table_in, table_place}
use Rattle.board_structures.specs.Laws.{IsUsableTable}
use Rattle.board_structures.specs.declared.firmware_table.FirmwareTable.{FirmwareTable}
use Rattle.board_structures.specs.declared.firmware_table.FirmwareTable.TheVariants as firmware_states
use Rattle.board_findings.specs.Laws.{HasUsableTable}
use Rattle.board_structures.specs.GoogleBinaryBlocks as blocks
use Rattle.board_structures.specs.GoogleBinaryBlocks.{gbb_in}
use Rattle.board_structures.specs.MasterHeaders.{master_header_in}
use Rattle.board_structures.specs.PartitionTables as tables
use Rattle.board_structures.specs.PartitionTables.{partition_table_in}
use Rattle.board_structures.specs.ResetVectors as vectors
use Rattle.board_structures.specs.ResetVectors.{reset_vector_in}
use Rattle.board_structures.specs.SignedSlots as signed
use Rattle.board_structures.specs.SignedSlots.{signed_slot_in}
use Rattle.board_structures.specs.MasterHeaders as headers
use Rattle.board_structures.specs.declared.descriptor.AreaDifference.{AreaDifference}
use Rattle.board_structures.specs.declared.descriptor.Descriptor.TheVariants.{Described}
use Rattle.board_structures.specs.declared.descriptor.DescriptorRegion.{DescriptorRegion}
use Rattle.board_structures.specs.declared.descriptor.DescriptorRegion.TheVariants as regions
use Rattle.board_structures.specs.declared.descriptor.RegionTable.{RegionTable}
use Rattle.board_structures.specs.declared.master_header.MasterHeader.{MasterHeader}
use Rattle.board_structures.specs.declared.master_header.MasterHeader.TheVariants as states
use Rattle.board_findings.specs.declared.finding.BoardFinding.{BoardFinding}
use Rattle.board_findings.specs.declared.finding.BoardFinding.TheVariants as found
use Rattle.board_findings.specs.BoardFindings.{Board, areas_in, board_findings, board_range, differences, differences_of, ends_with_bootblock, in_area, in_coreboot}
use Rattle.board_findings.specs.BoardFindings.{block_name, slot_body}
use Rattle.board_findings.specs.Components.{components_in, is_header}
use Rattle.board_findings.specs.declared.components.Placed.{Placed}
use Rattle.board_findings.specs.declared.finding.Slot.{Slot}
use Rattle.board_findings.specs.BoardFindings.{descriptor_part, ends_as_x86, firmware_table_part, gbb_part, master_header_part, partition_table_part, reset_vector_part, slot_part, table_findings}
use Rattle.board_findings.specs.declared.finding.Slot.TheVariants as slots
use Rattle.board_findings.specs.Verdicts.{is_bad}

-- no finding of the list is bad
abbrev pub AreFine : List BoardFinding → Type 0
AreFine findings = list_any is_bad findings ≡ false

neither : (a b : Bool) → (a || b) ≡ false → (a ≡ false) × (b ≡ false)
neither true b is = absurd cc
neither false b is = (refl, is)

pub both_fine : (xs ys : List BoardFinding) → AreFine (xs ++ ys) → AreFine xs × AreFine ys
both_fine xs ys are = neither (list_any is_bad xs) (list_any is_bad ys) (sym (list_any-append is_bad xs ys) ∙ are)

-- the first finding of a list
pub first_fine : (finding : BoardFinding) (rest : List BoardFinding) → AreFine (finding ∷ rest) → (is_bad finding ≡ false) × AreFine rest
first_fine finding rest are = neither (is_bad finding) (list_any is_bad rest) are

-- of the area with a name
pub area_fine : (b : Board) (name : List ℕ) (part : List ℕ → List BoardFinding) (r : Range) → board_range b name ≡ Some r → AreFine (in_area b name part) → AreFine (part (bytes_in r b.image))
area_fine b name part r is are = rw is at are

pub coreboot_fine : (b : Board) (part : Range → List BoardFinding) (r : Range) → board_range b (codes "COREBOOT") ≡ Some r → AreFine (in_coreboot b part) → AreFine (part r)
coreboot_fine b part r is are = rw is at are

pub record FineParts (b : Board) : Type 0 where
  pub descriptor : AreFine (descriptor_part b)
  pub partition_table : AreFine (partition_table_part b)
  pub reset_vector : AreFine (reset_vector_part b)
  pub firmware_table : AreFine (firmware_table_part b)
  pub master_header : AreFine (master_header_part b)
  pub gbb : AreFine (gbb_part b)
  pub slot_a : AreFine (slot_part slots.A b)
  pub slot_b : AreFine (slot_part slots.B b)

pub parts_fine : (b : Board) → AreFine (board_findings b) → FineParts b
unfolding board_findings
parts_fine b are =
    let first_two = descriptor_part b ++ partition_table_part b in
    let first_three = first_two ++ reset_vector_part b in
    let first_four = first_three ++ firmware_table_part b in
    let first_five = first_four ++ master_header_part b in
    let first_six = first_five ++ gbb_part b in
    let first_seven = first_six ++ slot_part slots.A b in
    let eight = both_fine first_seven (slot_part slots.B b) are in
    let seven = both_fine first_six (slot_part slots.A b) eight.0 in
    let six = both_fine first_five (gbb_part b) seven.0 in
    let five = both_fine first_four (master_header_part b) six.0 in
    let four = both_fine first_three (firmware_table_part b) five.0 in
    let three = both_fine first_two (reset_vector_part b) four.0 in
    let two = both_fine (descriptor_part b) (partition_table_part b) three.0 in
    record {
      descriptor = two.0;
      partition_table = two.1;
      reset_vector = three.1;
      firmware_table = four.1;
      master_header = five.1;
      gbb = six.1;
      slot_a = seven.1;
      slot_b = eight.1;
    }

-- ---- areas beside the descriptor

none_fine : (o : Option AreaDifference) (rest : List BoardFinding) → AreFine (option_to_list (option_map found.Region o) ++ rest) → (o ≡ None) × AreFine rest
none_fine None rest are = (refl, are)
none_fine (Some difference) rest are = absurd cc

pub no_difference : (areas : List NumberedArea) (table : RegionTable) (region : DescriptorRegion) → AreFine (differences areas (Described table)) → difference_in region table (areas_in areas) ≡ None
no_difference areas table region are =
    let of : DescriptorRegion → Option AreaDifference = λ one. difference_in one table (areas_in areas) in
    let rest : List DescriptorRegion → List BoardFinding = λ all. differences_of areas table all in
    let one = none_fine (of regions.Descriptor) (rest (regions.Bios ∷ regions.Me ∷ regions.Gbe ∷ regions.PlatformData ∷ regions.Ec ∷ [])) are in
    let two = none_fine (of regions.Bios) (rest (regions.Me ∷ regions.Gbe ∷ regions.PlatformData ∷ regions.Ec ∷ [])) one.1 in
    let three = none_fine (of regions.Me) (rest (regions.Gbe ∷ regions.PlatformData ∷ regions.Ec ∷ [])) two.1 in
    let four = none_fine (of regions.Gbe) (rest (regions.PlatformData ∷ regions.Ec ∷ [])) three.1 in
    let five = none_fine (of regions.PlatformData) (rest (regions.Ec ∷ [])) four.1 in
    let six = none_fine (of regions.Ec) [] five.1 in
    by_region areas table one.0 two.0 three.0 four.0 five.0 six.0 region
  where
    by_region : (areas : List NumberedArea) (table : RegionTable) → difference_in regions.Descriptor table (areas_in areas) ≡ None → difference_in regions.Bios table (areas_in areas) ≡ None → difference_in regions.Me table (areas_in areas) ≡ None → difference_in regions.Gbe table (areas_in areas) ≡ None → difference_in regions.PlatformData table (areas_in areas) ≡ None → difference_in regions.Ec table (areas_in areas) ≡ None → (region : DescriptorRegion) → difference_in region table (areas_in areas) ≡ None
    by_region areas table one two three four five six regions.Descriptor = one
    by_region areas table one two three four five six regions.Bios = two
    by_region areas table one two three four five six regions.Me = three
    by_region areas table one two three four five six regions.Gbe = four
    by_region areas table one two three four five six regions.PlatformData = five
    by_region areas table one two three four five six regions.Ec = six

-- ---- coreboot

-- a header that isn't bad is sound, if a bootblock ends its area
pub header_sound : (ends : Bool) (state : MasterHeader) → ends ≡ true → headers.is_bad ends state ≡ false → state ≡ states.Sound
header_sound ends (states.Broken fault) true_is is = absurd cc
header_sound ends states.Sound true_is is = refl

pub kept_if : (condition : Bool) (finding : BoardFinding) → condition ≡ true → AreFine (only_if condition finding) → is_bad finding ≡ false
kept_if true finding is are = (first_fine finding [] are).0
kept_if false finding is are = absurd cc

-- ---- the state of each structure isn't bad

pub descriptor_fine : (b : Board) (r : Range) → board_range b (codes "SI_DESC") ≡ Some r → AreFine (descriptor_part b) → let state = descriptor_in (bytes_in r b.image) in (descriptors.is_bad state ≡ false) × AreFine (differences b.areas state)
descriptor_fine b r is are =
    first_fine (found.Descriptor (descriptor_in (bytes_in r b.image))) (differences b.areas (descriptor_in (bytes_in r b.image))) (area_fine b (codes "SI_DESC") (λ x. found.Descriptor (descriptor_in x) ∷ differences b.areas (descriptor_in x)) r is are)

pub table_fine : (b : Board) (r : Range) → board_range b (codes "SI_ME") ≡ Some r → AreFine (partition_table_part b) → tables.is_bad (partition_table_in (bytes_in r b.image)) ≡ false
table_fine b r is are =
    (first_fine (found.PartitionTable (partition_table_in (bytes_in r b.image))) [] (area_fine b (codes "SI_ME") (λ x. found.PartitionTable (partition_table_in x) ∷ []) r is are)).0

pub gbb_fine : (b : Board) (r : Range) → board_range b (codes "GBB") ≡ Some r → AreFine (gbb_part b) → blocks.is_bad (gbb_in (bytes_in r b.image)) ≡ false
gbb_fine b r is are = (first_fine (found.Gbb (gbb_in (bytes_in r b.image))) [] (area_fine b (codes "GBB") (λ x. found.Gbb (gbb_in x) ∷ []) r is are)).0

pub slot_fine : (b : Board) (slot : Slot) (r : Range) → board_range b (block_name slot) ≡ Some r → AreFine (slot_part slot b) → signed.is_bad (signed_slot_in (slot_body b slot) (bytes_in r b.image)) ≡ false
slot_fine b slot r is are =
    (first_fine (found.Slot (record { slot = slot; state = signed_slot_in (slot_body b slot) (bytes_in r b.image) })) [] (area_fine b (block_name slot) (λ x. found.Slot (record { slot = slot; state = signed_slot_in (slot_body b slot) x }) ∷ []) r is are)).0

-- the part of either slot
pub either_slot : (b : Board) → FineParts b → (slot : Slot) → AreFine (slot_part slot b)
either_slot b parts slots.A = parts.slot_a
either_slot b parts slots.B = parts.slot_b

pub vector_fine : (b : Board) (r : Range) → board_range b (codes "COREBOOT") ≡ Some r → r.start + r.size ≡ length b.image → ends_with_bootblock b r ≡ true → AreFine (reset_vector_part b) → vectors.is_bad (reset_vector_in b.image) ≡ false
vector_fine b r is at_end ends are =
    kept_if (r.start + r.size == length b.image && ends_with_bootblock b r) (found.ResetVector (reset_vector_in b.image)) (rw (eq-eqb (r.start + r.size) (length b.image) at_end) ends)
    (coreboot_fine b (λ r. only_if (r.start + r.size == length b.image && ends_with_bootblock b r) (found.ResetVector (reset_vector_in b.image))) r is are)

-- a table that isn't bad is absent or sound
firmware_state : (state : FirmwareTable) → AreFine (table_findings state) → (state ≡ firmware_states.Absent) ⊎ (count : ℕ) × (state ≡ firmware_states.Sound count)
firmware_state firmware_states.Absent are = inl refl
firmware_state (firmware_states.Broken fault) are = absurd cc
firmware_state (firmware_states.Sound count) are = inr (count, refl)

findings_if : (condition : Bool) (findings : List BoardFinding) → condition ≡ true → AreFine (if condition then findings else []) → AreFine findings
findings_if true findings is are = are
findings_if false findings is are = absurd cc

pub firmware_fine : (b : Board) (r : Range) → board_range b (codes "COREBOOT") ≡ Some r → r.start + r.size ≡ length b.image → ends_with_bootblock b r ≡ true → AreFine (firmware_table_part b) → (firmware_table_in b.image ≡ firmware_states.Absent) ⊎ (count : ℕ) × (firmware_table_in b.image ≡ firmware_states.Sound count)
firmware_fine b r is at_end ends are =
    firmware_state (firmware_table_in b.image) (findings_if (ends_as_x86 b r) (table_findings (firmware_table_in b.image)) (rw (eq-eqb (r.start + r.size) (length b.image) at_end) ends)
    (coreboot_fine b (λ r. if ends_as_x86 b r then table_findings (firmware_table_in b.image) else []) r is are))

-- a sound table is one that a processor can use
pub usable_table : (image : List ℕ) → ((n : ℕ) → firmware_table_in image ≡ firmware_states.Sound n → (place : ℕ) × (table_place image ≡ Some place) × IsUsableTable place n image)
    → (firmware_table_in image ≡ firmware_states.Absent) ⊎ (count : ℕ) × (firmware_table_in image ≡ firmware_states.Sound count) → HasUsableTable image
usable_table image sound (inl absent) = inl absent
usable_table image sound (inr (count, is)) = let found = sound count is in inr (found.0, count, found.1, found.2)

-- the finding about a master header
abbrev header_of : Board → Range → Placed → BoardFinding
header_of b r c = found.MasterHeader (record {
  state = master_header_in r.start c.start (bytes_in r b.image);
  ends_with_bootblock = ends_with_bootblock b r;
})

header_there : (b : Board) (r : Range) (c : Placed) (o : Option Placed) → o ≡ Some c → AreFine (option_map_or (λ c. header_of b r c ∷ []) o []) → is_bad (header_of b r c) ≡ false
header_there b r c o is are = (first_fine (header_of b r c) [] (rw is at are)).0

pub header_fine : (b : Board) (r : Range) (c : Placed) → board_range b (codes "COREBOOT") ≡ Some r → ends_with_bootblock b r ≡ true → find is_header (components_in b.image r) ≡ Some c → AreFine (master_header_part b) → master_header_in r.start c.start (bytes_in r b.image) ≡ states.Sound
header_fine b r c is ends there are =
    header_sound (ends_with_bootblock b r) (master_header_in r.start c.start (bytes_in r b.image)) ends
    (header_there b r c (find is_header (components_in b.image r)) there (coreboot_fine b (λ r. option_map_or (λ c. header_of b r c ∷ []) (find is_header (components_in b.image r)) []) r is are))
