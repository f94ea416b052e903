-- The text of a report, part by part.
use Rattle.std.proofs.Common.{None, ◌<◌, length, length-append, arith, ◌≡◌, ◌∙◌, ℕ, List, [], ◌∷◌, ◌++◌, map, Bool, true, false, refl, ap, ap₂, sym, append_assoc, append-nil}
use Rattle.std.specs.Prelude.{fold, Option, Some, if◌then◌else◌}
use Rattle.std.specs.List.{flat_map}
use Rattle.std.specs.Option.{option_map_or}
use lib.Chars.{codes}
use Rattle.std.proofs.lemmas.List.{map-append}
use Rattle.std.proofs.lemmas.List.Sums.{fold-append}
use Rattle.std.proofs.lemmas.Grind.{flat_map-append}
use Rattle.json.specs.Json.{Members, no_members, member}
use Rattle.json.specs.Token.{Token, begin_array, begin_object, end_array, end_object, key}
use Rattle.json.specs.Tree.{json_tokens, members_tokens}
use Rattle.json.specs.Print.{ends, print, print_from}
use Rattle.json.proofs.Printed.Tokens.{print_from-append}
use Rattle.flash_format.specs.Texts.{line_feed}
use Rattle.check_report.specs.declared.request.Files.{Files}
use Rattle.check_report.specs.declared.rows.conclusion.Conclusion.{Conclusion}
use Rattle.check_report.specs.declared.rows.form.LineForm.{LineForm}
use Rattle.check_report.specs.declared.rows.form.LineForm.TheVariants as forms
use Rattle.check_report.specs.Fields.{Line, SeenField, field, line_json, line_text, members}
use Rattle.check_report.specs.Reports.{Listing, closing, conclusion_fields, conclusion_style, hidden_remarks, document, ending, first_fields, follows_after, heading, in_form, json_report, lines_value, listing_text, member_tokens, next_tokens, part, parts, sentence, start_tokens, text_of_line, text_report, widths_after}
use Rattle.check_report.specs.Rows.{summary}
use Rattle.check_report.specs.Tables.{cells, painted, widened}
use Rattle.check_report.specs.declared.rows.form.Colours.{Colours}
use Rattle.check_report.specs.declared.request.Request.{Request}
use Rattle.check_report.proofs.Tokens.{fields_tokens, object_tokens}

-- a value just ended after these tokens
abbrev pub ended : Bool → List Token → Bool
ended b ts = fold (λ _ t. ends t) b ts

ended_members : (b : Bool) (ms : Members) → ended b (members_tokens ms) ≡ true
ended_members b no_members = refl
ended_members b (member k j ms) = fold-append (λ _ t. ends t) false (json_tokens j) (members_tokens ms) ∙ ended_members _ ms

abbrev lines_tokens : List Line → List Token
lines_tokens lines = flat_map json_tokens (map line_json lines)

still_follows : (lines : List Line) → follows_after true lines ≡ true
still_follows [] = refl
still_follows (line ∷ lines) = refl

pub follows_after-append : (b : Bool) (xs ys : List Line) → follows_after b (xs ++ ys) ≡ follows_after (follows_after b xs) ys
follows_after-append b [] ys = refl
follows_after-append b (x ∷ xs) ys = sym (still_follows ys)

-- the flag after lines
ended_lines : (b : Bool) (lines : List Line) → ended b (lines_tokens lines) ≡ follows_after b lines
ended_lines b [] = refl
ended_lines b (line ∷ lines) = fold-append (λ _ t. ends t) b (json_tokens (line_json line)) (lines_tokens lines)
    ∙ ap (λ c. ended c (lines_tokens lines)) (ended_members false (members line.fields)) ∙ ended_lines true lines ∙ still_follows lines

-- lines after lines
pub parts_append : (form : LineForm) (b : Bool) (xs ys : List Line) → parts form b (xs ++ ys) ≡ parts form b xs ++ parts form (follows_after b xs) ys
parts_append forms.Text b xs ys = flat_map-append line_text xs ys
parts_append forms.Ruler b xs ys = flat_map-append (λ line. []) xs ys
parts_append (forms.Table columns) b xs ys = flat_map-append (text_of_line (forms.Table columns)) xs ys
parts_append forms.Json b xs ys =
    ap (λ js. print_from b (flat_map json_tokens js)) (map-append line_json xs ys)
    ∙ ap (print_from b) (flat_map-append json_tokens (map line_json xs) (map line_json ys))
    ∙ print_from-append b (lines_tokens xs) (lines_tokens ys)
    ∙ ap (λ c. print_from b (lines_tokens xs) ++ print_from c (lines_tokens ys)) (ended_lines b xs)

pub no_parts : (form : LineForm) (b : Bool) → parts form b [] ≡ []
unfolding print_from
no_parts forms.Text b = refl
no_parts forms.Ruler b = refl
no_parts (forms.Table columns) b = refl
no_parts forms.Json b = refl

-- an object after a value
pub line_after : (b : Bool) (line : Line) → (if b then codes "," else []) ++ print (json_tokens (line_json line)) ≡ parts forms.Json b (line ∷ [])
unfolding print_from
line_after true line = ap (λ ts. print_from true ts) (sym (append-nil (json_tokens (line_json line))))
line_after false line = ap (λ ts. print_from false ts) (sym (append-nil (json_tokens (line_json line))))

-- ---- the parts make the report

begun : (fields : List SeenField) (name : List ℕ) → ended false (start_tokens fields name) ≡ false
begun fields name = fold-append (λ _ t. ends t) false (begin_object ∷ flat_map member_tokens fields) (key name ∷ begin_array ∷ [])

-- an end after any tokens
after : (b : Bool) (ts : List Token) → print_from b (end_array ∷ ts) ≡ print (end_array ∷ ts)
unfolding print_from
after true ts = refl
after false ts = refl

-- an array after its start, and the tokens after the array
array_text : (fields : List SeenField) (name : List ℕ) (lines : List Line) (rest : List Token)
    → print ((start_tokens fields name ++ lines_tokens lines) ++ (end_array ∷ rest)) ≡ (print (start_tokens fields name) ++ parts forms.Json false lines) ++ print (end_array ∷ rest)
array_text fields name lines rest =
    print_from-append false (start_tokens fields name ++ lines_tokens lines) (end_array ∷ rest)
    ∙ ap₂ (λ x y. x ++ y)
    (print_from-append false (start_tokens fields name) (lines_tokens lines)
    ∙ ap (λ c. print (start_tokens fields name) ++ print_from c (lines_tokens lines)) (begun fields name))
    (after _ rest)

-- a text and an array, from its start to that of the next one
pub array_part : (form : LineForm) (text : List ℕ) (first : List SeenField) (name next : List ℕ) (lines : List Line)
    → (part form false text (start_tokens first name) ++ parts form false lines) ++ part form false [] (next_tokens next)
    ≡ part form false (text ++ flat_map (text_of_line form) lines) (start_tokens (first ++ record { key = name; value = lines_value lines } ∷ []) next)
array_part forms.Text text first name next lines = append-nil (text ++ flat_map line_text lines)
array_part forms.Ruler text first name next lines = append-nil (text ++ flat_map (text_of_line forms.Ruler) lines)
array_part (forms.Table columns) text first name next lines = append-nil (text ++ flat_map (text_of_line (forms.Table columns)) lines)
array_part forms.Json text first name next lines = let rest : List Token = key next ∷ begin_array ∷ [] in
    sym (array_text first name lines rest) ∙ sym (ap print (fields_tokens first [] name lines rest))

regroup : (a b c d : List ℕ) → a ++ (b ++ (c ++ d)) ≡ ((a ++ b) ++ c) ++ d
regroup a b c d = simp append_assoc

text_whole : (form : LineForm) (list : Option Listing) (rows : List Line) (end : Conclusion)
    → option_map_or (listing_text (text_of_line form)) list [] ++ (flat_map (text_of_line form) rows ++ (summary end ++ line_feed)) ≡ text_report (text_of_line form) list rows end ++ line_feed
text_whole form list rows end = regroup (option_map_or (listing_text (text_of_line form)) list []) (flat_map (text_of_line form) rows) (summary end) line_feed

json_whole : (files : Files) (list : Option Listing) (rows : List Line) (end : Conclusion)
    → print (start_tokens (first_fields files list) (codes "rows")) ++ (parts forms.Json false rows ++ ending forms.Json end) ≡ json_report files list rows end ++ line_feed
json_whole files list rows end =
    let first : List SeenField = first_fields files list in
    let rest : List Token = flat_map member_tokens (conclusion_fields end) ++ end_object ∷ [] in
    let tokens : json_tokens (document files list rows end) ≡ (start_tokens first (codes "rows") ++ lines_tokens rows) ++ (end_array ∷ rest) =
    object_tokens (first ++ field "rows" (lines_value rows) ∷ conclusion_fields end) ∙ fields_tokens first (conclusion_fields end) (codes "rows") rows (end_object ∷ []) in
    regroup (print (start_tokens first (codes "rows"))) (parts forms.Json false rows) (print (end_array ∷ rest)) line_feed
    ∙ ap (λ l. l ++ line_feed) (sym (array_text first (codes "rows") rows rest) ∙ sym (ap print tokens))

pub whole : (form : LineForm) (files : Files) (list : Option Listing) (rows : List Line) (end : Conclusion)
    → heading form files list ++ (parts form false rows ++ ending form end)
    ≡ in_form form (text_report (text_of_line form) list rows end) (json_report files list rows end) ++ line_feed
whole forms.Text files None rows end = text_whole forms.Text None rows end
whole forms.Text files (Some list) rows end = text_whole forms.Text (Some list) rows end
whole forms.Ruler files None rows end = text_whole forms.Ruler None rows end
whole forms.Ruler files (Some list) rows end = text_whole forms.Ruler (Some list) rows end
whole (forms.Table columns) files None rows end = text_whole (forms.Table columns) None rows end
whole (forms.Table columns) files (Some list) rows end = text_whole (forms.Table columns) (Some list) rows end
whole forms.Json files None rows end = json_whole files None rows end
whole forms.Json files (Some list) rows end = json_whole files (Some list) rows end

-- the measured widths after lines and further lines
pub widths_after-append : (form : LineForm) (ws : List ℕ) (xs ys : List Line) → widths_after form ws (xs ++ ys) ≡ widths_after form (widths_after form ws xs) ys
widths_after-append forms.Text ws xs ys = refl
widths_after-append forms.Json ws xs ys = refl
widths_after-append (forms.Table columns) ws xs ys = refl
widths_after-append forms.Ruler ws xs ys = fold-append (λ ws line. widened ws (cells line)) ws xs ys

pub no_widths_after : (form : LineForm) (ws : List ℕ) → widths_after form ws [] ≡ ws
no_widths_after forms.Text ws = refl
no_widths_after forms.Json ws = refl
no_widths_after (forms.Table columns) ws = refl
no_widths_after forms.Ruler ws = refl

-- an ending has bytes
pub some_ending : (form : LineForm) (end : Conclusion) → 0 < length (ending form end)
some_ending form end = omega (arith, length-append (part form false (summary end) (end_array ∷ flat_map member_tokens (conclusion_fields end) ++ end_object ∷ [])) line_feed)

pub some_closing : (colours : Colours) (request : Request) (end : Conclusion) → 0 < length (closing colours request end)
some_closing colours request end = omega (arith, length-append (hidden_remarks (if request.asked.is_verbose then 0 else end.counts.remarks) ++ painted colours (conclusion_style end) (sentence request.files end)) line_feed)
