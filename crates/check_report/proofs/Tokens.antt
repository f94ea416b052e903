-- The tokens of fields and of a document, part by part.
use Rattle.std.proofs.Common.{◌≡◌, ℕ, List, [], ◌∷◌, ◌++◌, true, false, Option, Some, None, map, refl, sym, ap, ◌∙◌, append_assoc, arith}
use Rattle.std.specs.List.{flat_map}
use Rattle.std.specs.Option.{option_map_or}
use Rattle.std.specs.Fmt.{decimal}
use Rattle.std.specs.Str.{IsUtf8, is_utf8}
use Rattle.std.proofs.lemmas.Grind.{flat_map-append}
use Rattle.std.proofs.lemmas.Str.{is_utf8-from_IsUtf8, IsUtf8-from_is_utf8}
use Rattle.json.specs.Json.{Json, array, member, object}
use Rattle.json.specs.Token.{Token, begin_object, begin_array, end_array, end_object, key}
use Rattle.json.specs.Tree.{json_tokens, items_tokens, members_tokens}
use Rattle.check_report.specs.Fields.{Line, SeenField, items, line_json, members, name_json, number_json}
use Rattle.check_report.specs.Reports.{lines_value, member_tokens, start_tokens}

members_tokens-members : (fs : List SeenField) → members_tokens (members fs) ≡ flat_map member_tokens fs ++ end_object ∷ []
members_tokens-members [] = refl
members_tokens-members (f ∷ fs) = go f.value.json (members_tokens-members fs)
  where
    go : (o : Option Json) → members_tokens (members fs) ≡ flat_map member_tokens fs ++ end_object ∷ []
        → members_tokens (option_map_or (λ j. member f.key j (members fs)) o (members fs))
        ≡ (option_map_or (λ j. key f.key ∷ json_tokens j) o [] ++ flat_map member_tokens fs) ++ end_object ∷ []
    go None rest = rest
    go (Some j) rest = ap (λ ts. key f.key ∷ (json_tokens j ++ ts)) rest ∙ ap (λ ts. key f.key ∷ ts) (sym (append_assoc (json_tokens j) _ _))

pub object_tokens : (fs : List SeenField) → json_tokens (object (members fs)) ≡ begin_object ∷ (flat_map member_tokens fs ++ end_object ∷ [])
object_tokens fs = ap (λ ts. begin_object ∷ ts) (members_tokens-members fs)

items_tokens-items : (js : List Json) → items_tokens (items js) ≡ flat_map json_tokens js ++ end_array ∷ []
items_tokens-items [] = refl
items_tokens-items (j ∷ js) = ap (λ ts. json_tokens j ++ ts) (items_tokens-items js) ∙ sym (append_assoc (json_tokens j) (flat_map json_tokens js) (end_array ∷ []))

regroup : (f j l e : List Token) (k a z : Token) → (f ++ ((k ∷ a ∷ (j ++ z ∷ [])) ++ l)) ++ e ≡ ((f ++ (k ∷ a ∷ [])) ++ j) ++ ((z ∷ l) ++ e)
regroup f j l e k a z = simp append_assoc

-- fields with an array between
pub fields_tokens : (first last : List SeenField) (name : List ℕ) (lines : List Line) (e : List Token)
    → let js = flat_map json_tokens (map line_json lines) in
    (begin_object ∷ flat_map member_tokens (first ++ record { key = name; value = lines_value lines } ∷ last)) ++ e
    ≡ (start_tokens first name ++ js) ++ ((end_array ∷ flat_map member_tokens last) ++ e)
fields_tokens first last name lines e =
    let js : List Token = flat_map json_tokens (map line_json lines) in
    ap (λ ts. begin_object ∷ (ts ++ e)) (flat_map-append member_tokens first (record { key = name; value = lines_value lines } ∷ last)
    ∙ ap (λ ts. flat_map member_tokens first ++ ((key name ∷ begin_array ∷ ts) ++ flat_map member_tokens last)) (items_tokens-items (map line_json lines)))
    ∙ ap (λ ts. begin_object ∷ ts) (regroup (flat_map member_tokens first) js (flat_map member_tokens last) e (key name) begin_array end_array)

number_items : (bytes : List ℕ) → items_tokens (items (map number_json bytes)) ≡ map (λ b. Token.number (decimal b)) bytes ++ end_array ∷ []
number_items [] = refl
number_items (b ∷ bs) = ap (λ ts. Token.number (decimal b) ∷ ts) (number_items bs)

-- an array of bytes
pub bytes_tokens : (bytes : List ℕ) → json_tokens (array (items (map number_json bytes))) ≡ begin_array ∷ (map (λ b. Token.number (decimal b)) bytes ++ end_array ∷ [])
bytes_tokens bytes = ap (λ ts. begin_array ∷ ts) (number_items bytes)

-- a UTF-8 name is a string
pub name_tokens-utf8 : (name : List ℕ) → IsUtf8 name → json_tokens (name_json name) ≡ Token.string name ∷ []
name_tokens-utf8 name utf8 = let is : is_utf8 name ≡ true = is_utf8-from_IsUtf8 name utf8 in rw is refl

-- any other name is an array
pub name_tokens-bytes : (name : List ℕ) → (IsUtf8 name → ⊥) → json_tokens (name_json name) ≡ json_tokens (array (items (map number_json name)))
name_tokens-bytes name other = let is : is_utf8 name ≡ false = grind (arith, other, IsUtf8-from_is_utf8 name) in rw is refl
