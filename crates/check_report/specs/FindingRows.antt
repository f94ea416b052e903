-- Rows of findings. This project defines their codes and texts.
use Rattle.std.specs.Prelude.{ℕ, zero, Bool, true, not, ◌||◌, List, [], ◌∷◌, ◌++◌, Some, None}
use Rattle.std.specs.Prelude.{is_none, slice_get, Option, if◌then◌else◌}
use Rattle.std.specs.Borrow.{Bor}
use Rattle.std.specs.List.{flat_map}
use Rattle.std.specs.Option.{option_map_or}
use Rattle.std.specs.Str.{is_utf8}
use lib.Chars.{codes}
use Rattle.flash_format.specs.Made.{algorithm_row}
use Rattle.flash_format.specs.TypeNames.{name_of_type}
use Rattle.flash_format.specs.declared.head.DamageKind.{DamageKind}
use Rattle.flash_format.specs.declared.head.DamageKind.TheVariants as kinds
use Rattle.check_findings.specs.declared.region.finding.HashFinding.{HashFinding}
use Rattle.check_findings.specs.declared.region.finding.HashFinding.TheVariants as hashes
use Rattle.check_findings.specs.declared.region.finding.RegionFinding.{RegionFinding}
use Rattle.check_findings.specs.declared.region.finding.RegionFinding.TheVariants.{BadSize}
use Rattle.check_findings.specs.declared.region.finding.RegionFinding.TheVariants.{Complete}
use Rattle.check_findings.specs.declared.region.finding.RegionFinding.TheVariants.{Component}
use Rattle.check_findings.specs.declared.region.finding.RegionFinding.TheVariants.{Components}
use Rattle.check_findings.specs.declared.region.finding.RegionFinding.TheVariants.{Damaged}
use Rattle.check_findings.specs.declared.region.finding.RegionFinding.TheVariants.{Deleted}
use Rattle.check_findings.specs.declared.region.finding.RegionFinding.TheVariants.{FreeBytes}
use Rattle.check_findings.specs.declared.region.finding.RegionFinding.TheVariants.{LargestContent}
use Rattle.check_findings.specs.declared.region.finding.RegionFinding.TheVariants.{NotCbfs}
use Rattle.check_findings.specs.declared.region.finding.RegionFinding.TheVariants.{Tail}
use Rattle.check_findings.specs.declared.region.finding.RegionFinding.TheVariants.{TailEntry}
use Rattle.check_findings.specs.declared.region.finding.RegionFinding.TheVariants.{TailFilled}
use Rattle.check_findings.specs.declared.region.finding.RegionFinding.TheVariants.{UnalignedSize}
use Rattle.check_findings.specs.declared.map.finding.MapFinding.{MapFinding}
use Rattle.check_findings.specs.declared.map.finding.MapFinding.TheVariants as of_map
use Rattle.check_findings.specs.declared.image.finding.ImageFinding.{ImageFinding}
use Rattle.check_findings.specs.declared.image.finding.ImageFinding.TheVariants.{Anchor as OfAnchor, Map, Region}
use Rattle.check_findings.specs.declared.image.finding.ImageFinding.TheVariants.{NotChecked}
use Rattle.check_findings.specs.declared.image.finding.ImageFinding.TheVariants.{NoArea}
use Rattle.check_findings.specs.Needs.{unmet}
use Rattle.check_findings.specs.declared.image.needs.Need.{Need}
use Rattle.check_findings.specs.declared.image.needs.NeedFinding.{NeedFinding}
use Rattle.check_findings.specs.declared.image.needs.NeedFinding.TheVariants.{Missing, Elsewhere}
use Rattle.check_findings.specs.Lists.{only_if}
use Rattle.check_findings.specs.Verdicts.{has_hash_not_of_anchor, is_bad_hash, has_long_metadata, needs_hash}
use Rattle.check_findings.specs.Verdicts.{rules_of}
use Rattle.check_findings.specs.declared.image.verdict.HashRules.{HashRules}
use Rattle.check_findings.specs.declared.region.finding.Content.{Content}
use Rattle.check_report.specs.AnchorRows.{anchor_row}
use Rattle.check_report.specs.AttributeRows.{attribute_rows}
use Rattle.check_report.specs.declared.request.Asked.{Asked}
use Rattle.check_report.specs.declared.rows.field.Value.TheVariants.{Dash}
use Rattle.check_report.specs.Fields.{SeenValue, name_value, seen_value}
use Rattle.check_report.specs.declared.rows.row.Verdict.TheVariants.{Bad, Remark}
use Rattle.check_report.specs.Rows.{SeenRow, area_name, at_component, of_area}
use Rattle.check_report.specs.Rows.{of_component, row, row_at, row_of, with_count}
use Rattle.check_report.specs.Rows.{in_area, with_number, with_other}

-- ---- the flash map; positions count from the image's start

abbrev pub map_row : MapFinding → SeenRow
map_row of_map.NoMap = row Bad "no-map" "no flashmap"
map_row (of_map.Map m) = row_at m.at (row Remark "map" "flashmap")
map_row (of_map.OtherMap m) = row_at m.at (row Remark "other-map" "another flashmap")
map_row of_map.OtherSize = row Bad "map-size" "the flashmap states another size than the image has"
map_row (of_map.AreaOutside a) = of_area a (row Bad "area-outside" "ends outside the image")
map_row (of_map.AreaEmpty a) = of_area a (row Remark "area-empty" "has no bytes")
map_row (of_map.AreaNameNotText a) = of_area a (row Remark "area-name" "name isn't UTF-8")
map_row (of_map.SameName a first) =
    with_other first (of_area a (row Bad "area-same-name" "has the name of an earlier area"))
map_row (of_map.Overlap a other) = with_other other (of_area a (row Bad "area-overlaps" "overlaps"))
map_row of_map.TooManyAreas = row Bad "too-many-areas" "too many areas to look for overlaps"
map_row (of_map.MapAreaMisses None) = row Bad "no-map-area" "no area FMAP"
map_row (of_map.MapAreaMisses (Some a)) =
    of_area a (row Bad "map-area" "doesn't begin with the flashmap")

-- ---- a region; positions count from its start

-- the code and the text of a digest
abbrev pub hash_words : HashFinding → List ℕ × List ℕ
hash_words hashes.Missing = (codes "hash-missing", codes "no hash")
hash_words (hashes.Valid a) = (codes "hash-valid", (algorithm_row a).name ++ codes " valid")
hash_words (hashes.Invalid a) = (codes "hash-invalid", (algorithm_row a).name ++ codes " invalid")
hash_words hashes.Unsupported = (codes "hash-unsupported", codes "hash unsupported")

-- a digest has a row; a missing digest only if it is needed, or on request
abbrev pub has_state_row : Asked → HashRules → Content → HashFinding → Bool
has_state_row asked rules content hashes.Missing = asked.is_verbose || needs_hash rules content
has_state_row asked rules content _ = true

abbrev pub has_hash_row : Asked → HashRules → Content → Bool
has_hash_row asked rules content = has_state_row asked rules content content.hash

abbrev pub hash_row : HashRules → List ℕ → Content → SeenRow
hash_row rules name content = row_of (if is_bad_hash rules name content then Bad else Remark)
    (hash_words content.hash).0 (hash_words content.hash).1

-- rows of a digest: its state, and another algorithm than the anchor's
abbrev pub hash_rows : Asked → HashRules → List ℕ → ℕ → List ℕ → Content → List SeenRow
hash_rows asked rules region at name content = let here = at_component region at name in
    only_if (has_hash_row asked rules content) (here (hash_row rules name content))
    ++ only_if (has_hash_not_of_anchor rules content)
    (here (row Remark "hash-other-algorithm" "hash isn't of the anchor's algorithm"))

-- rows of a component: an earlier namesake, too long metadata, a name that isn't UTF-8, a type
-- without a name, the digest, and a fault of the attributes
abbrev pub component_rows : Asked → HashRules → List ℕ → RegionFinding → List SeenRow
component_rows asked rules region (Component at name shadowed content) =
    let here = at_component region at name in
    only_if shadowed (here (row Bad "component-shadowed" "has the name of an earlier component"))
    ++ (only_if (has_long_metadata at content) (here (row Bad "metadata-too-long"
    "metadata longer than 256 bytes: firmware can't find it"))
    ++ (only_if (not (is_utf8 name)) (here (row Remark "component-name" "name isn't UTF-8"))
    ++ (only_if (is_none (name_of_type content.kind))
    (here (with_number content.kind (row Remark "component-type" "type without a name")))
    ++ (hash_rows asked rules region at name content
    ++ attribute_rows region at name content.fault))))
component_rows asked rules region _ = []

-- the failed check
abbrev pub damage_text : DamageKind → List ℕ
damage_text kinds.Offset = codes "damaged entry: offset"
damage_text kinds.AttrOffset = codes "damaged entry: attributes"
damage_text kinds.Extent = codes "damaged entry: extent"
damage_text kinds.Name = codes "damaged entry: name"
damage_text kinds.AttrLength = codes "damaged entry: attribute length"

-- the row of a finding that isn't a component
abbrev pub plain_row : RegionFinding → Option SeenRow
plain_row (Component at name shadowed content) = None
plain_row BadSize = Some (row Bad "region-size" "size is less than 64")
plain_row UnalignedSize = Some (row Remark "region-unaligned" "size is no multiple of 64")
plain_row NotCbfs = Some (row Bad "no-cbfs" "no CBFS")
plain_row (Deleted at) = Some (row_at at (row Remark "component-deleted" "deleted component"))
plain_row Complete = Some (row Remark "complete" "complete")
plain_row (Tail at) = Some (row_at at (row Remark "tail" "unused tail"))
plain_row (TailFilled at) =
    Some (row_at at (row Bad "tail-bytes" "unused tail has other bytes than 0xff and 0x00"))
plain_row (TailEntry at) = Some (row_at at (row Bad "tail-entry" "entry in the unused tail"))
plain_row (Damaged at k) = Some (row_at at (row_of Bad (codes "entry-damaged") (damage_text k)))
plain_row (Components zero) = Some (row Remark "no-components" "no components")
plain_row (Components n) = Some (with_count n (row Remark "components" "components"))
plain_row (FreeBytes n) = Some (with_count n (row Remark "free-bytes" "free bytes"))
plain_row (LargestContent (Some n)) =
    Some (with_count n (row Remark "largest-content" "largest content that add takes"))
plain_row (LargestContent None) = Some (row Remark "no-room" "no room for a component")

abbrev pub region_rows : Asked → HashRules → List ℕ → List RegionFinding → List SeenRow
region_rows asked rules area findings = flat_map (λ finding. option_map_or (λ row.
    in_area area row ∷ []) (plain_row finding) (component_rows asked rules area finding)) findings

-- ---- the image

-- the row of a name without an area
abbrev pub missing_row : SeenValue → SeenRow
missing_row name = record (row Bad "no-area" "no such area") { area = name }

-- by the given area names; an area that isn't checked is bad if its name is expected
abbrev pub rows_of : Asked → List (Bor (List ℕ)) → ImageFinding → List SeenRow
rows_of asked names (Map finding) = map_row finding ∷ []
rows_of asked names (OfAnchor finding) = anchor_row finding ∷ []
rows_of asked names (Region a anchor findings) =
    region_rows asked (rules_of asked.needs_hashes anchor) (area_name a) findings
rows_of asked names (NotChecked a named) = of_area a (row (if named then Bad else Remark)
    "area-not-checked" "isn't checked: checked areas would exceed twice the image") ∷ []
rows_of asked names (NoArea n) = missing_row
    (option_map_or (λ name. name_value name.now) (slice_get names n) (seen_value Dash)) ∷ []

abbrev pub finding_rows : Asked → List (Bor (List ℕ)) → List ImageFinding → List SeenRow
finding_rows asked names findings = flat_map (rows_of asked names) findings

-- ---- needs

abbrev pub need_row : NeedFinding → SeenRow
need_row Missing = row Bad "need-missing" "needed component isn't there"
need_row (Elsewhere at) = row_at at (row Bad "need-elsewhere" "needed component is elsewhere")

-- rows of the unmet needs
abbrev pub need_rows : List ImageFinding → List Need → List SeenRow
need_rows findings needs = flat_map (λ need. option_map_or
    (λ finding. of_component need.area.now need.name.now (need_row finding) ∷ [])
    (unmet findings need) []) needs
