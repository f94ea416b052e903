-- A report: a list of components on request, rows, and a conclusion. JSON is one document
-- (RFC 8259). A report for a terminal has tables, and begins with the areas of the flash map.
-- This project defines the choice and order of components and rows.
use Rattle.std.specs.Prelude.{ℕ, List, [], ◌∷◌, ◌++◌, map, is_none, if◌then◌else◌, Option, false}
use Rattle.std.specs.Prelude.{◌&&◌, ◌==◌, filter, not, Bool, true, ◌≡◌, None}
use Rattle.std.specs.Prelude.{IsSomeAnd, is_some}
use Rattle.std.specs.Prelude.{MatchOption, length, suc, zero}
use Rattle.std.specs.Fmt.{decimal}
use Rattle.std.specs.List.{flat_map, list_any, zip}
use Rattle.std.specs.Option.{option_map, option_map_or, option_copied, option_to_list}
use lib.Chars.{codes}
use Rattle.hex.specs.Hex.{encode_lower}
use Rattle.check_digests.specs.Digests.{SeenDigests, image_digests}
use Rattle.flash_format.specs.Made.{digest_bytes}
use Rattle.flash_format.specs.Texts.{printed_compression, printed_type, line_feed}
use Rattle.check_findings.specs.declared.areas.NumberedArea.{NumberedArea}
use Rattle.check_findings.specs.declared.region.finding.Content.{Content}
use Rattle.check_findings.specs.declared.region.finding.RegionFinding.{RegionFinding}
use Rattle.check_findings.specs.declared.region.finding.RegionFinding.TheVariants.{Component}
use Rattle.check_findings.specs.declared.image.finding.ImageFinding.{ImageFinding}
use Rattle.check_findings.specs.declared.image.finding.ImageFinding.TheVariants.{Region}
use Rattle.check_report.specs.declared.rows.field.Value.TheVariants.{Count, Offset, Absent, Dash}
use Rattle.check_report.specs.Fields.{Line, SeenField, SeenValue, field, name_value, seen_value}
use Rattle.check_report.specs.Fields.{text_value}
use Rattle.check_report.specs.Fields.{line_text, items, json_value, line_json, members}
use Rattle.check_report.specs.Rows.{SeenRow, area_name, conclusion_of, report_lines, summary}
use Rattle.check_report.specs.Rows.{verdict_text}
use Rattle.check_report.specs.Rows.{names_in, row, row_line, rows_by_verdict}
use Rattle.check_report.specs.declared.rows.row.Verdict.TheVariants.{Bad, Remark}
use Rattle.check_report.specs.FindingRows.{finding_rows, hash_words, missing_row, need_rows}
use Rattle.check_report.specs.BoardRows.{board_rows}
use Rattle.check_report.specs.SlotChanges.{mapped, outdated_row, outdated_slots}
use Rattle.check_report.specs.StructureRows.{structure_row}
use Rattle.board_findings.specs.BoardFindings.{board_findings}
use Rattle.board_findings.specs.Structures.{lost_structures}
use Rattle.board_findings.specs.declared.finding.BoardFinding.{BoardFinding}
use Rattle.check_findings.specs.Areas.{has_name}
use Rattle.check_findings.specs.Lists.{only_if}
use Rattle.check_report.specs.ChangeRows.{anchor_change_row, area_change_rows, image_rows, map_change_row}
use Rattle.check_report.specs.ChangeRows.{region_change_rows}
use Rattle.check_report.specs.declared.request.Request.{Request}
use Rattle.check_report.specs.declared.inspection.Changes.{Changes}
use Rattle.check_report.specs.declared.inspection.Comparison.{Comparison}
use Rattle.check_report.specs.declared.inspection.Inspection.{Inspection}
use Rattle.check_report.specs.declared.inspection.OldImage.{OldImage}
use Rattle.std.specs.Bool.{then_some}
use Rattle.json.specs.Tree.{json_tokens}
use Rattle.json.specs.Json.{Json, array, object}
use Rattle.json.specs.Token.{Token, begin_array, begin_object, end_array, end_object, key}
use Rattle.json.specs.Print.{print, print_from}
use Rattle.check_report.specs.declared.request.Files.{Files}
use Rattle.check_report.specs.declared.rows.conclusion.Conclusion.{Conclusion}
use Rattle.check_report.specs.declared.rows.conclusion.Subject.{Subject}
use Rattle.check_report.specs.declared.rows.conclusion.Subject.TheVariants as subjects
use Rattle.check_report.specs.declared.rows.form.Colours.{Colours}
use Rattle.check_report.specs.declared.rows.form.Form.{Form}
use Rattle.check_report.specs.declared.rows.form.Form.TheVariants as forms
use Rattle.check_report.specs.declared.rows.form.LineForm.{LineForm}
use Rattle.check_report.specs.declared.rows.form.LineForm.TheVariants as lines
use Rattle.check_report.specs.declared.rows.style.Style.{Style}
use Rattle.check_report.specs.declared.rows.style.Style.TheVariants as styles
use Rattle.check_report.specs.Tables.{painted, table, table_line, widened_all}
use Rattle.check_report.specs.AreaLines.{area_lines}
pub use Rattle.check_report.specs.AreaLines.{is_preserved}
use Rattle.flash_map.specs.Fmap.{found_in}
use Rattle.check_findings.specs.Areas.{image_areas}
use Rattle.check_findings.specs.ImageFindings.{cbfs_areas, image_findings}
use Rattle.check_changes.specs.Anchors.{anchor_change}
use Rattle.check_findings.specs.Anchors.{image_anchor}
use Rattle.check_changes.specs.Areas.{area_changes, map_changes}
use Rattle.check_changes.specs.Areas.{different_blocks}
use Rattle.check_changes.specs.Regions.{region_changes}

abbrev pub conclusion_fields : Conclusion → List SeenField
conclusion_fields c =
    field "verdict" (text_value (verdict_text c))
    ∷ field "bad" (seen_value (Count c.counts.bad))
    ∷ field "remarks" (seen_value (Count c.counts.remarks))
    ∷ field "changes" (seen_value (Count c.counts.changes))
    ∷ []

-- the subject of the conclusion: the image, or flashing the image, which requires --flash
abbrev pub subject_of : Request → Subject
subject_of request = if request.is_strict then subjects.Flashing else subjects.Image

-- in JSON, an array with an object for each line
abbrev pub lines_value : List Line → SeenValue
lines_value lines = json_value (array (items (map line_json lines)))

-- what --list lists: the areas of the flash map, and the components of the checked areas
abbrev pub Listing : Type 0
Listing = record { areas : List Line; components : List Line }

abbrev pub file_fields : Files → List SeenField
file_fields files =
    field "format" (seen_value (Count 1))
    ∷ field "image" (text_value files.image.now)
    ∷ field "old" (option_map_or text_value (option_copied files.old) (seen_value Absent))
    ∷ []

-- the fields before the components
abbrev pub fields_to_areas : Files → List Line → List SeenField
fields_to_areas files areas = file_fields files ++ field "areas" (lines_value areas) ∷ []

-- the fields before the rows, with a list
abbrev pub listed_fields : Files → Listing → List SeenField
listed_fields files list =
    fields_to_areas files list.areas ++ field "components" (lines_value list.components) ∷ []

-- the fields before the rows
abbrev pub first_fields : Files → Option Listing → List SeenField
first_fields files list = option_map_or (listed_fields files) list (file_fields files)

abbrev pub document : Files → Option Listing → List Line → Conclusion → Json
document files list rows end = object (members
    (first_fields files list ++ field "rows" (lines_value rows) ∷ conclusion_fields end))

-- the text of a list, by the text of a line
abbrev pub listing_text : (Line → List ℕ) → Listing → List ℕ
listing_text text list = flat_map text list.areas ++ flat_map text list.components

-- the report as text: the list on request, the rows and the conclusion, by the text of a line
abbrev pub text_report : (Line → List ℕ) → Option Listing → List Line → Conclusion → List ℕ
text_report text list rows end =
    option_map_or (listing_text text) list [] ++ flat_map text rows ++ summary end

-- the report as JSON: one document
abbrev pub json_report : Files → Option Listing → List Line → Conclusion → List ℕ
json_report files list rows end = print (json_tokens (document files list rows end))

-- the bytes of a form of lines
abbrev pub in_form : LineForm → List ℕ → List ℕ → List ℕ
in_form lines.Json text json = json
in_form lines.Text text json = text
in_form lines.Ruler text json = text
in_form (lines.Table columns) text json = text

-- a part of a report in any form: text, or tokens after another value or not
abbrev pub part : LineForm → Bool → List ℕ → List Token → List ℕ
part form follows text tokens = in_form form text (print_from follows tokens)

-- the text of a line, which a ruler only measures
abbrev pub text_of_line : LineForm → Line → List ℕ
text_of_line (lines.Table columns) line = table_line columns.colours columns.widths.items line
text_of_line lines.Ruler line = []
text_of_line lines.Text line = line_text line
text_of_line lines.Json line = line_text line

-- the widths of the measured columns after lines, which change by a ruler only
abbrev pub widths_after : LineForm → List ℕ → List Line → List ℕ
widths_after lines.Ruler ws lines = widened_all ws lines
widths_after lines.Text ws lines = ws
widths_after lines.Json ws lines = ws
widths_after (lines.Table columns) ws lines = ws

-- ---- its parts

-- the tokens of a field with a JSON value
abbrev pub member_tokens : SeenField → List Token
member_tokens field =
    option_map_or (λ json. key field.key ∷ json_tokens json) field.value.json []

-- an object up to its first array
abbrev pub start_tokens : List SeenField → List ℕ → List Token
start_tokens fields name =
    begin_object ∷ flat_map member_tokens fields ++ key name ∷ begin_array ∷ []

-- the end of an array, and the start of the next one with this name
abbrev pub next_tokens : List ℕ → List Token
next_tokens name = end_array ∷ key name ∷ begin_array ∷ []

-- the part before the components of a list
abbrev pub area_heading : LineForm → Files → List Line → List ℕ
area_heading form files areas = part form false (flat_map (text_of_line form) areas)
    (start_tokens (fields_to_areas files areas) (codes "components"))

-- the part before the rows, with a list
abbrev pub listed_heading : LineForm → Files → Listing → List ℕ
listed_heading form files list = part form false (listing_text (text_of_line form) list)
    (start_tokens (listed_fields files list) (codes "rows"))

-- the part before the rows
abbrev pub heading : LineForm → Files → Option Listing → List ℕ
heading form files list = option_map_or (listed_heading form files) list
    (part form false [] (start_tokens (file_fields files) (codes "rows")))

abbrev pub parts : LineForm → Bool → List Line → List ℕ
parts form follows lines = part form follows (flat_map (text_of_line form) lines)
    (flat_map json_tokens (map line_json lines))

-- after a line, the next line follows another line
abbrev pub follows_after : Bool → List Line → Bool
follows_after follows [] = follows
follows_after follows (line ∷ lines) = true

abbrev pub ending : LineForm → Conclusion → List ℕ
ending form c = part form false (summary c)
    (end_array ∷ flat_map member_tokens (conclusion_fields c) ++ end_object ∷ []) ++ line_feed

-- ---- the choice of areas, components and rows

-- name; offset in the image, size in bytes, and flags, in the numbers of `cbfstool layout`
abbrev pub map_fields : NumberedArea → List SeenField
map_fields a =
    field "area" (name_value (area_name a))
    ∷ field "offset" (seen_value (Offset a.area.offset))
    ∷ field "size" (seen_value (Count a.area.size))
    ∷ field "flags" (seen_value (Offset a.area.flags))
    ∷ []

abbrev pub map_line : NumberedArea → Line
map_line a = record { head = codes "area"; fields = map_fields a }

-- a component at an offset of the area with this name
pub record ListedComponent : Type 0 where
  pub area : List ℕ
  pub at : ℕ
  pub name : List ℕ
  pub content : Content

abbrev pub listed_in : List ℕ → RegionFinding → List ListedComponent
listed_in area (Component at name shadowed content) =
    record { area = area; at = at; name = name; content = content } ∷ []
listed_in area _ = []

abbrev pub listed_of : ImageFinding → List ListedComponent
listed_of (Region a anchor findings) = flat_map (listed_in (area_name a)) findings
listed_of _ = []

-- the components of the checked areas, in order
abbrev pub listed_components : List ImageFinding → List ListedComponent
listed_components findings = flat_map listed_of findings

-- the position is that of the entry in the area, and `content` that of its content
abbrev pub component_fields : ListedComponent → List SeenField
component_fields c =
    field "area" (name_value c.area)
    ∷ field "component" (name_value c.name)
    ∷ field "position" (seen_value (Offset c.at))
    ∷ field "type" (text_value (printed_type c.content.kind))
    ∷ field "length" (seen_value (Count c.content.len))
    ∷ field "compression" (text_value (printed_compression c.content.compression))
    ∷ field "hash" (text_value (hash_words c.content.hash).1)
    ∷ field "content" (seen_value (Offset c.content.start))
    ∷ []

abbrev pub component_line : ListedComponent → Line
component_line c = record { head = codes "component"; fields = component_fields c }

abbrev pub component_lines : List ℕ → RegionFinding → List Line
component_lines area finding = map component_line (listed_in area finding)

abbrev pub components_in : ImageFinding → List Line
components_in (Region a anchor findings) = flat_map (component_lines (area_name a)) findings
components_in _ = []

-- in lower-case hexadecimal digits
abbrev pub digest_value : List ℕ → SeenValue
digest_value bytes = text_value (encode_lower bytes)

-- the stored digest, if any, and SHA-256 of the content
abbrev pub digest_fields : SeenDigests → List SeenField
digest_fields digests =
    field "stored" (option_map_or (λ stored. digest_value (digest_bytes stored)) digests.stored
    (seen_value Dash))
    ∷ field "sha256" (digest_value digests.content)
    ∷ []

-- the line of a component with its digests
abbrev pub hashed_line : ListedComponent × SeenDigests → Line
hashed_line pair = record {
  head = codes "component";
  fields = component_fields pair.0 ++ digest_fields pair.1;
}

-- the lines of components with their digests, in order
abbrev pub hashed_lines : List ListedComponent → List SeenDigests → List Line
hashed_lines components digests = map hashed_line (zip components digests)

-- all areas of the flash map, and the components of the checked areas, in order
abbrev pub listing : Inspection → Listing
listing i = record {
  areas = map map_line i.areas.items;
  components = hashed_lines (listed_components i.findings.items) i.digests.items;
}

abbrev pub listed : Request → Inspection → Option Listing
listed request i = then_some request.asked.lists (listing i)

-- ---- rows

-- the areas for a comparison: the new areas if the old image has no map
abbrev pub areas_or : OldImage → List NumberedArea → List NumberedArea
areas_or old news = if is_none old.map.found then news else old.map.areas.items

-- of the structures that are lost, and of the slots with outdated signatures
abbrev pub structure_rows : Comparison → List SeenRow
structure_rows c = map structure_row c.structures.items ++ map outdated_row c.outdated.items

module _ (request : Request) (news : List NumberedArea) (c : Changes) where
  abbrev pub both_areas : List NumberedArea
  both_areas = areas_or c.old news ++ news

  -- the given names and, on request, names of areas with the flag PRESERVE
  abbrev pub kept_names : List (List ℕ)
  kept_names = names_in request.kept.now ++ map area_name
      (filter (λ a. request.keeps_preserved && is_preserved a) both_areas)

  -- rows of the given names without an area
  abbrev pub missing_rows : List SeenRow
  missing_rows = flat_map (λ name. only_if (not (list_any (has_name name) both_areas))
      (missing_row (name_value name))) (names_in request.kept.now)

  -- a row if no area has the flag; bad on request, unless areas are kept by their names
  abbrev pub unpreserved_rows : List SeenRow
  unpreserved_rows =
      only_if (request.keeps_preserved && not (list_any is_preserved both_areas))
      (row (if request.is_strict && length request.kept.now == 0 then Bad else Remark)
      "none-preserved" "no area has the flag PRESERVE")

  -- rows of what is to be kept, and neither image has
  abbrev pub absent_rows : List SeenRow
  absent_rows = missing_rows ++ unpreserved_rows

  -- rows of the images, their maps, anchors, structures, areas and components, and of absent areas
  abbrev pub change_rows : List SeenRow
  change_rows = let new = c.comparison in
      let vital = kept_names ++ map area_name c.old.regions.items in
      (((((image_rows new.old_len new.new_len new.blocks
      ++ map (map_change_row request.is_strict) new.map.items)
      ++ option_to_list (option_map anchor_change_row new.anchor))
      ++ structure_rows new)
      ++ flat_map (area_change_rows kept_names vital) new.areas.items)
      ++ flat_map (region_change_rows kept_names) new.regions.items) ++ absent_rows

-- rows of findings, unmet needs, structures of the board, and changes
abbrev pub inspection_rows : Request → Inspection → List SeenRow
inspection_rows request i = ((finding_rows request.asked request.areas.now i.findings.items
    ++ need_rows i.findings.items request.needs.now) ++ board_rows i.board.items)
    ++ option_map_or (change_rows request i.areas.items) i.changes []

-- the report by lines, as text or JSON, and a line feed
unfoldable pub lines_report : LineForm → Request → Inspection → List ℕ
lines_report form request i = let list = listed request i in
    let rows = inspection_rows request i in
    let lines = report_lines request.asked.is_verbose rows in
    let end = conclusion_of (subject_of request) rows in
    in_form form (text_report (text_of_line form) list lines end)
    (json_report request.files list lines end) ++ line_feed

-- ---- the report for a terminal

-- the headings of the aligned columns; the first column has the word of the line
abbrev pub area_columns : List (List ℕ)
area_columns = [] ∷ codes "IN IMAGE" ∷ codes "SIZE" ∷ codes "AREA" ∷ []

abbrev pub component_columns : List (List ℕ)
component_columns =
    [] ∷ codes "AREA"
    ∷ codes "COMPONENT"
    ∷ codes "IN AREA"
    ∷ codes "TYPE"
    ∷ codes "LENGTH"
    ∷ codes "COMPRESSION"
    ∷ codes "HASH"
    ∷ codes "CONTENT"
    ∷ []

abbrev pub row_columns : List (List ℕ)
row_columns = [] ∷ codes "AREA" ∷ codes "COMPONENT" ∷ codes "OFFSET" ∷ []

-- how many remarks a report without -v hides
abbrev pub hidden_remarks : ℕ → List ℕ
hidden_remarks zero = []
hidden_remarks (suc zero) = codes "1 remark is not shown: -v shows it\n"
hidden_remarks n = decimal n ++ codes " remarks are not shown: -v shows them\n"

abbrev pub conclusion_style : Conclusion → Style
conclusion_style c = if c.counts.bad == 0 then styles.Good else styles.Bad

-- a number and a noun, in the plural except for 1
abbrev pub counted : ℕ → List ℕ → List ℕ
counted n noun = decimal n ++ codes " " ++ noun ++ (if n == 1 then [] else codes "s")

-- the number of changes, if there is an old image
abbrev pub counted_changes : Files → Conclusion → List ℕ
counted_changes files c =
    if is_some files.old then codes ", " ++ counted c.counts.changes (codes "change") else []

-- the conclusion for a reader
abbrev pub sentence : Files → Conclusion → List ℕ
sentence files c = verdict_text c ++ codes ": " ++ decimal c.counts.bad ++ codes " bad, "
    ++ counted c.counts.remarks (codes "remark") ++ counted_changes files c

-- the lines after the tables
abbrev pub closing : Colours → Request → Conclusion → List ℕ
closing colours request c =
    hidden_remarks (if request.asked.is_verbose then 0 else c.counts.remarks)
    ++ painted colours (conclusion_style c) (sentence request.files c) ++ line_feed

-- the components of the checked areas on request; a table has no room for digests
abbrev pub component_table : Colours → Request → Inspection → List ℕ
component_table colours request i = if request.asked.lists then table colours component_columns
    (flat_map components_in i.findings.items) else []

-- the areas, the components on request, and the rows by verdict
abbrev pub tables : Colours → Request → Inspection → List ℕ
tables colours request i = let rows = inspection_rows request i in
    (table colours area_columns (area_lines i) ++ component_table colours request i)
    ++ table colours row_columns (map row_line (rows_by_verdict request.asked.is_verbose rows))

-- the tables, the number of hidden remarks, and the conclusion
unfoldable pub terminal_report : Colours → Request → Inspection → List ℕ
terminal_report colours request i =
    let end = conclusion_of (subject_of request) (inspection_rows request i) in
    tables colours request i ++ closing colours request end

-- the report in the form of the request
abbrev pub report_in : Form → Request → Inspection → List ℕ
report_in forms.Text request i = lines_report lines.Text request i
report_in forms.Json request i = lines_report lines.Json request i
report_in (forms.Terminal colours) request i = terminal_report colours request i

unfoldable pub report : Request → Inspection → List ℕ
report request i = report_in request.form request i

-- ---- the result of a check, on honest devices

-- about the structures of an image's board
abbrev pub board_of : List ℕ → List BoardFinding
board_of image = board_findings (record { image = image; areas = image_areas image })

-- the changes from x to y, by the findings of y
pub record AreChanges (x y : List ℕ) (findings : List ImageFinding) (c : Changes) : Type 0 where
  pub old_map : c.old.map.found ≡ found_in x
  pub old_areas : c.old.map.areas.items ≡ image_areas x
  pub old_regions : c.old.regions.items ≡ cbfs_areas x (image_areas x)
  pub old_len : c.comparison.old_len ≡ length x
  pub new_len : c.comparison.new_len ≡ length y
  pub blocks : c.comparison.blocks ≡ different_blocks x y
  pub map : c.comparison.map.items ≡ map_changes (found_in x) (found_in y)
  pub anchor : c.comparison.anchor ≡ anchor_change (image_anchor x) (image_anchor y)
  pub structures : c.comparison.structures.items
      ≡ lost_structures (board_of x) (board_of y)
  pub outdated : c.comparison.outdated.items ≡ outdated_slots
      (mapped x (areas_or c.old (image_areas y))) (mapped y (image_areas y)) (board_of y)
  pub areas : c.comparison.areas.items
      ≡ area_changes x (areas_or c.old (image_areas y)) y (image_areas y)
  pub regions : c.comparison.regions.items
      ≡ region_changes x (areas_or c.old (image_areas y)) y findings

-- the check of y, after an old image or alone; the regions of the old image are expected in y
pub record Checks (r : Request) (old : Option (List ℕ)) (y : List ℕ) (i : Inspection) : Type 0 where
  pub findings : i.findings.items ≡ image_findings y (names_in r.areas.now)
      (map (λ need. need.area.now) r.needs.now
      ++ option_map_or (λ x. map area_name (cbfs_areas x (image_areas x))) old [])
  pub areas : i.areas.items ≡ image_areas y
  pub board : i.board.items ≡ board_of y
  pub digests : i.digests.items
      ≡ (if r.asked.lists then image_digests y i.findings.items else [])
  pub changes : MatchOption old (i.changes ≡ None)
      (λ x. IsSomeAnd i.changes (AreChanges x y i.findings.items))
