-- The rules of sound structures.
use Rattle.std.proofs.Common.{◌≡◌, ◌⊎◌, ◌∙◌, ℕ, ◌+◌, ◌-◌, ◌*◌, ◌≤◌, inl, inr, Bool, true, false, List, length, take, drop, Some, None, sym, ap, refl, arith, length-take}
use Rattle.std.specs.Prelude.{slice_range, nat_lt}
use Rattle.std.specs.List.{find}
use Rattle.std.proofs.lemmas.Bool.{eqb-true, le-ltb, ltb-false, and_parts}
use Rattle.std.proofs.lemmas.List.{take-take, drop-take}
use Rattle.std.proofs.lemmas.Slice.Eq.{bytes_eq-Decides}
use Rattle.flash_device.proofs.BytesLemmas.{slice_range_is}
use Rattle.board_structures.specs.Filling.{each_byte_is, first_page}
use Rattle.board_structures.specs.Magics.{has_magic_at}
use Rattle.flash_format.specs.Flashmap.{is_area}
use Rattle.flash_format.specs.declared.flashmap.Area.{Area}
use Rattle.board_structures.specs.Descriptors as descriptors
use Rattle.board_structures.specs.Descriptors.{area_name_of, area_range, base_of, descriptor_in, difference_in, difference_of, is_same_range, limit_of, range_of, signature, state_of_page}
use Rattle.board_structures.specs.declared.descriptor.AreaDifference.{AreaDifference}
use Rattle.board_structures.specs.declared.descriptor.DescriptorRegion.{DescriptorRegion}
use Rattle.board_structures.specs.declared.descriptor.FlashRange.{FlashRange}
use Rattle.board_structures.specs.declared.descriptor.RegionTable.{RegionTable}
use Rattle.board_structures.specs.ResetVectors as vectors
use Rattle.board_structures.specs.ResetVectors.{code_in, reset_vector_in, state_of_code}
use Rattle.board_structures.specs.PartitionTables as tables
use Rattle.board_structures.specs.PartitionTables.{partition_table_in, table_of_page, marker}

-- a magic in the first bytes is in the area
pub magic_in_front : (x magic : List ℕ) (at front : ℕ) → at + length magic ≤ front → has_magic_at at magic (take front x) ≡ true → slice_range x at (at + length magic) ≡ magic
magic_in_front x magic at front fits has =
    let n = length magic in
    let split : front ≡ at + (front - at) = omega (arith, fits) in
    slice_range_is x at n
    ∙ sym (take-take n (front - at) (drop at x) (omega (arith, fits)))
    ∙ ap (take n) (sym (drop-take at (front - at) x) ∙ ap (λ k. drop at (take k x)) (sym split))
    ∙ sym ((bytes_eq-Decides magic (take n (drop at (take front x)))).0 has)

pub magic_there : (x magic : List ℕ) (at : ℕ) → at + length magic ≤ 4096 → has_magic_at at magic (first_page x) ≡ true → slice_range x at (at + length magic) ≡ magic
magic_there x magic at fits has = magic_in_front x magic at 4096 fits has

-- by whether a test holds
pub by_bool : (b : Bool) (P : Type 0) → (b ≡ true → P) → (b ≡ false → P) → P
by_bool true P holds fails = holds refl
by_bool false P holds fails = fails refl

pub marked : (x : List ℕ) → tables.is_bad (partition_table_in x) ≡ false → (each_byte_is 0xff x ≡ true) ⊎ (slice_range x 16 20 ≡ marker) ⊎ (slice_range x 0 4 ≡ marker)
unfolding partition_table_in
marked x sound =
    let P : Type 0 = (each_byte_is 0xff x ≡ true) ⊎ (slice_range x 16 20 ≡ marker) ⊎ (slice_range x 0 4 ≡ marker) in
    by_bool (each_byte_is 0xff x) P (λ blank. inl blank) (λ filled.
    by_bool (has_magic_at 16 marker (first_page x)) P (λ newer. inr (inl (magic_there x marker 16 (omega arith) newer))) (λ not_newer.
    by_bool (has_magic_at 0 marker (first_page x)) P (λ older. inr (inr (magic_there x marker 0 (omega arith) older))) (λ not_older.
    let impossible : true ≡ false = rw (filled, not_newer, not_older) at sound in absurd cc)))

pub signed : (x : List ℕ) → descriptors.is_bad (descriptor_in x) ≡ false
    → (each_byte_is 0xff x ≡ true) ⊎ ((4096 ≤ length x) × ((slice_range x 16 20 ≡ signature) ⊎ (slice_range x 0 4 ≡ signature)))
unfolding descriptor_in state_of_page
signed x sound =
    let P : Type 0 = (each_byte_is 0xff x ≡ true) ⊎ ((4096 ≤ length x) × ((slice_range x 16 20 ≡ signature) ⊎ (slice_range x 0 4 ≡ signature))) in
    by_bool (each_byte_is 0xff x) P (λ blank. inl blank) (λ filled.
    by_bool (nat_lt (length (first_page x)) 4096) P (λ short. let impossible : true ≡ false = rw (filled, short) at sound in absurd cc) (λ whole.
    let long : 4096 ≤ length x = omega (arith, ltb-false (length (first_page x)) 4096 whole, length-take 4096 x) in
    by_bool (has_magic_at 16 signature (first_page x)) P (λ newer. inr (long, inl (magic_there x signature 16 (omega arith) newer))) (λ not_newer.
    by_bool (has_magic_at 0 signature (first_page x)) P (λ older. inr (long, inr (magic_there x signature 0 (omega arith) older))) (λ not_older.
    let impossible : true ≡ false = rw (filled, whole, not_newer, not_older) at sound in absurd cc))))

pub has_code : (image : List ℕ) → vectors.is_bad (reset_vector_in image) ≡ false → (16 ≤ length image) × (each_byte_is 0xff (code_in image) ≡ false) × (each_byte_is 0x00 (code_in image) ≡ false)
unfolding reset_vector_in
has_code image sound =
    let P : Type 0 = (16 ≤ length image) × (each_byte_is 0xff (code_in image) ≡ false) × (each_byte_is 0x00 (code_in image) ≡ false) in
    by_bool (nat_lt (length image) 16) P (λ short. let impossible : true ≡ false = rw short at sound in absurd cc) (λ whole.
    by_bool (each_byte_is 0xff (code_in image)) P (λ erased. let impossible : true ≡ false = rw (whole, erased) at sound in absurd cc) (λ not_erased.
    by_bool (each_byte_is 0x00 (code_in image)) P (λ cleared. let impossible : true ≡ false = rw (whole, not_erased, cleared) at sound in absurd cc) (λ not_cleared.
    (ltb-false (length image) 16 whole, not_erased, not_cleared))))

pub same_range : (region : DescriptorRegion) (described area : FlashRange) → difference_of region described area ≡ None → (described.offset ≡ area.offset) × (described.size ≡ area.size)
same_range region described area none =
    let P : Type 0 = (described.offset ≡ area.offset) × (described.size ≡ area.size) in
    by_bool (is_same_range described area) P (λ same.
    let parts = and_parts _ _ same in (eqb-true _ _ parts.0, eqb-true _ _ parts.1)) (λ other. let impossible : Some (let d : AreaDifference = record { region = region; described = described; area = area } in d) ≡ None = rw other at none in absurd cc)

pub placed : (region : DescriptorRegion) (table : RegionTable) (areas : List Area) (a : Area) → difference_in region table areas ≡ None → base_of region table ≤ limit_of region table → find (is_area (area_name_of region)) areas ≡ Some a
    → (a.offset ≡ 4096 * base_of region table) × (a.offset + a.size ≡ 4096 * (limit_of region table + 1))
unfolding range_of
placed region table areas a none used found =
    let there : difference_of region (record { offset = 4096 * base_of region table; size = 4096 * (limit_of region table - base_of region table + 1) }) (area_range a) ≡ None =
    rw (le-ltb (limit_of region table) (base_of region table) used, found) at none in
    let same = same_range region _ _ there in
    (sym same.0, omega (arith, same.0, same.1, used))
