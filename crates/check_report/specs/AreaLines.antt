-- The lines of a flash map's areas, for a terminal. This project defines their words.
use Rattle.std.specs.Prelude.{ℕ, Bool, true, false, ◌&&◌, ◌%◌, ◌==◌, List, [], ◌∷◌, map}
use Rattle.std.specs.Prelude.{length, nat_le, if◌then◌else◌}
use Rattle.std.specs.List.{find, list_any}
use Rattle.std.specs.Option.{option_map_or}
use lib.Chars.{codes}
use Rattle.check_findings.specs.declared.areas.NumberedArea.{NumberedArea}
use Rattle.check_findings.specs.declared.image.finding.ImageFinding.{ImageFinding}
use Rattle.check_findings.specs.declared.image.finding.ImageFinding.TheVariants.{Region}
use Rattle.check_changes.specs.Areas.{is_first_of_name}
use Rattle.check_changes.specs.declared.areas.change.AreaChange.{AreaChange}
use Rattle.check_changes.specs.declared.areas.change.AreaDifference.{AreaDifference}
use Rattle.check_changes.specs.declared.areas.change.AreaDifference.TheVariants.{Added, Differs}
use Rattle.check_changes.specs.declared.areas.change.AreaDifference.TheVariants.{FlagsFrom, Gone}
use Rattle.check_changes.specs.declared.areas.change.AreaDifference.TheVariants.{MovedFrom}
use Rattle.check_changes.specs.declared.areas.change.AreaDifference.TheVariants.{NotCompared}
use Rattle.check_changes.specs.declared.areas.change.AreaDifference.TheVariants.{ResizedFrom}
use Rattle.check_report.specs.declared.inspection.Inspection.{Inspection}
use Rattle.check_report.specs.declared.rows.field.Value.TheVariants.{Absent, Offset, Place}
use Rattle.check_report.specs.Fields.{Line, SeenField, SeenValue, field, name_value, seen_value}
use Rattle.check_report.specs.Fields.{text_value}
use Rattle.check_report.specs.Rows.{area_name}

-- the area has the flag PRESERVE, bit 3
abbrev pub is_preserved : NumberedArea → Bool
is_preserved a = nat_le 8 (a.area.flags % 16)

-- a word for an area with a property
abbrev pub word_if : Bool → List ℕ → SeenValue
word_if holds word = if holds then text_value word else seen_value Absent

-- ---- areas that are checked as a CBFS

abbrev pub is_region_of : NumberedArea → ImageFinding → Bool
is_region_of a (Region area anchor findings) = area.number == a.number
is_region_of a finding = false

abbrev pub is_checked : List ImageFinding → NumberedArea → Bool
is_checked findings a = list_any (is_region_of a) findings

-- ---- the effect of flashing on an area

abbrev pub difference_word : AreaDifference → List ℕ
difference_word Added = codes "new"
difference_word Gone = codes "gone"
difference_word (MovedFrom at) = codes "moved"
difference_word (ResizedFrom n) = codes "resized"
difference_word (FlagsFrom n) = codes "other flags"
difference_word (Differs blocks own) = codes "changed"
difference_word NotCompared = codes "not compared"

-- the difference is about an area of the new image
abbrev pub is_of_new_area : AreaDifference → Bool
is_of_new_area Gone = false
is_of_new_area what = true

-- the change is about the area `a` of the new image
abbrev pub is_change_of : NumberedArea → AreaChange → Bool
is_change_of a change = is_of_new_area change.what && change.area.number == a.number

-- without a change, the bytes are identical; the bytes of a second area of a name are not compared
abbrev pub unchanged_word : List NumberedArea → NumberedArea → List ℕ
unchanged_word areas a =
    if is_first_of_name areas a then codes "unchanged" else codes "not compared"

-- by the first change of the area
abbrev pub change_word : List NumberedArea → List AreaChange → NumberedArea → List ℕ
change_word areas changes a = option_map_or (λ change. difference_word change.what)
    (find (is_change_of a) changes) (unchanged_word areas a)

-- ---- lines

abbrev pub change_value : Inspection → NumberedArea → SeenValue
change_value i a = option_map_or
    (λ c. text_value (change_word i.areas.items c.comparison.areas.items a))
    i.changes (seen_value Absent)

-- place, size and name; with an old image, the change; followed by two optional properties
abbrev pub area_fields : Inspection → NumberedArea → List SeenField
area_fields i a =
    field "place" (seen_value (Place a.area.offset))
    ∷ field "size" (seen_value (Offset a.area.size))
    ∷ field "name" (name_value (area_name a))
    ∷ field "change" (change_value i a)
    ∷ field "preserve" (word_if (is_preserved a) (codes "flag PRESERVE"))
    ∷ field "cbfs" (word_if (is_checked i.findings.items a) (codes "cbfs"))
    ∷ []

abbrev pub area_line : Inspection → NumberedArea → Line
area_line i a = record { head = codes "area"; fields = area_fields i a }

-- the areas in the order of the map, if there are at most 128
abbrev pub area_lines : Inspection → List Line
area_lines i =
    if nat_le (length i.areas.items) 128 then map (area_line i) i.areas.items else []
