-- Reports without a bad row: no structure is lost, and no slot is outdated.
use Rattle.std.proofs.Common.{◌≡◌, ◌∙◌, Bool, true, false, ◌||◌, List, [], ◌∷◌, ◌++◌, Option, Some, None, map, refl, sym}
use Rattle.std.specs.Prelude.{IfSome}
use Rattle.std.specs.List.{flat_map}
use Rattle.std.specs.Option.{option_map, option_map_or, option_to_list}
use Rattle.std.proofs.lemmas.List.Folds.{list_any-append}
use Rattle.board_findings.specs.declared.finding.Slot.{Slot}
use Rattle.board_findings.specs.declared.structure.Structure.{Structure}
use Rattle.check_findings.specs.declared.areas.NumberedArea.{NumberedArea}
use Rattle.check_report.specs.ChangeRows.{anchor_change_row, area_change_rows, image_rows, map_change_row, region_change_rows}
use Rattle.check_report.specs.Reports.{absent_rows, change_rows, kept_names, structure_rows}
use Rattle.check_report.specs.Rows.{SeenRow, area_name, has_bad, has_verdict}
use Rattle.check_report.specs.SlotChanges.{outdated_row}
use Rattle.check_report.specs.StructureRows.{structure_row}
use Rattle.check_report.specs.declared.inspection.Comparison.{Comparison}
use Rattle.check_report.specs.declared.inspection.Changes.{Changes}
use Rattle.check_report.specs.declared.request.Request.{Request}
use Rattle.check_report.specs.declared.rows.row.Verdict.TheVariants.{Bad}

neither : (a b : Bool) → (a || b) ≡ false → (a ≡ false) × (b ≡ false)
neither true b is = absurd cc
neither false b is = (refl, is)

pub both_fine : (xs ys : List SeenRow) → has_bad (xs ++ ys) ≡ false → (has_bad xs ≡ false) × (has_bad ys ≡ false)
both_fine xs ys fine = neither (has_bad xs) (has_bad ys) (sym (list_any-append (has_verdict Bad) xs ys) ∙ fine)

-- each row of a lost structure is bad
none_lost : (lost : List Structure) → has_bad (map structure_row lost) ≡ false → lost ≡ []
none_lost [] fine = refl
none_lost (structure ∷ lost) fine = absurd cc

-- each row of an outdated slot is bad
none_outdated : (slots : List Slot) → has_bad (map outdated_row slots) ≡ false → slots ≡ []
none_outdated [] fine = refl
none_outdated (slot ∷ slots) fine = absurd cc

abbrev pub IsUnharmed : Comparison → Type 0
IsUnharmed c = (c.structures.items ≡ []) × (c.outdated.items ≡ [])

unharmed_in : (request : Request) (news : List NumberedArea) (c : Changes) → has_bad (change_rows request news c) ≡ false → IsUnharmed c.comparison
unharmed_in request news c fine =
    let new = c.comparison in
    let kept = kept_names request news c in
    let vital = kept ++ map area_name c.old.regions.items in
    let first : List SeenRow = (image_rows new.old_len new.new_len new.blocks ++ map (map_change_row request.is_strict) new.map.items) ++ option_to_list (option_map anchor_change_row new.anchor) in
    let lost : List SeenRow = structure_rows new in
    let areas : List SeenRow = flat_map (area_change_rows kept vital) new.areas.items in
    let regions : List SeenRow = flat_map (region_change_rows kept) new.regions.items in
    let no_absent = both_fine (((first ++ lost) ++ areas) ++ regions) (absent_rows request news c) fine in
    let no_regions = both_fine ((first ++ lost) ++ areas) regions no_absent.0 in
    let no_areas = both_fine (first ++ lost) areas no_regions.0 in
    let both = both_fine (map structure_row new.structures.items) (map outdated_row new.outdated.items) (both_fine first lost no_areas.0).1 in
    (none_lost new.structures.items both.0, none_outdated new.outdated.items both.1)

pub unharmed_by : (request : Request) (news : List NumberedArea) (changes : Option Changes) → has_bad (option_map_or (change_rows request news) changes []) ≡ false → IfSome changes (λ c. IsUnharmed c.comparison)
unharmed_by request news None fine = tt
unharmed_by request news (Some c) fine = unharmed_in request news c fine
