-- Fields as text and JSON. This project defines the text.
use Rattle.std.specs.Prelude.{ℕ, List, [], ◌∷◌, ◌++◌, Option, Some, None, map}
use Rattle.std.specs.Prelude.{if◌then◌else◌, ◌-◌, false, length, replicate}
use Rattle.std.specs.List.{flat_map}
use Rattle.std.specs.Option.{option_map_or}
use Rattle.std.specs.Fmt.{decimal, digits}
use Rattle.std.specs.Str.{is_utf8}
use lib.Chars.{codes}
use Prim.Native.String.{String}
use Rattle.json.specs.Json.{Json, number, string, array, object, Items, no_items, item, Members}
use Rattle.json.specs.Json.{no_members, member}
use Rattle.flash_format.specs.Texts.{hexadecimal, printed_name, tab, line_feed}
use Rattle.check_report.specs.declared.rows.field.Value.{Value}
use Rattle.check_report.specs.declared.rows.field.Value.TheVariants as values
use Rattle.std.specs.Borrow.{Bor}

-- a value in both forms
pub record SeenValue : Type 0 where
  pub text : Option (List ℕ)
  pub json : Option Json

-- in JSON alone
abbrev pub json_value : Json → SeenValue
json_value json = record { text = None; json = Some json }

abbrev pub text_value : List ℕ → SeenValue
text_value text = record { text = Some text; json = Some (string text) }

abbrev pub number_json : ℕ → Json
number_json n = number (decimal n)

abbrev pub items : List Json → Items
items [] = no_items
items (json ∷ rest) = item json (items rest)

-- a name: a string if UTF-8, otherwise an array of bytes
abbrev pub name_json : List ℕ → Json
name_json name = if is_utf8 name then string name else array (items (map number_json name))

abbrev pub name_value : List ℕ → SeenValue
name_value name = record { text = Some (printed_name name); json = Some (name_json name) }

-- eight hexadecimal digits, or more for a number from 2^32 on
abbrev pub place_text : ℕ → List ℕ
place_text n = let number = digits 16 false n in
    codes "0x" ++ replicate (8 - length number) 0x30 ++ number

abbrev pub seen_value : Value → SeenValue
seen_value values.Absent = record { text = None; json = None }
seen_value values.Dash = record { text = Some (codes "-"); json = None }
seen_value (values.Code text) = json_value (string text.now)
seen_value (values.Text text) = text_value text.now
seen_value (values.Name name) = name_value name.now
seen_value (values.Count n) = record { text = Some (decimal n); json = Some (number_json n) }
seen_value (values.Offset n) = record { text = Some (hexadecimal n); json = Some (number_json n) }
seen_value (values.Hexadecimal n) = text_value (hexadecimal n)
seen_value (values.Place n) = record { text = Some (place_text n); json = Some (number_json n) }

-- ---- fields

-- a value with its JSON key
abbrev pub SeenField : Type 0
SeenField = record { key : List ℕ; value : SeenValue }

abbrev pub field : String → SeenValue → SeenField
field key value = record { key = codes key; value = value }

abbrev pub seen_field : Bor (List ℕ) × Value → SeenField
seen_field field = record { key = field.0.now; value = seen_value field.1 }

-- a tab and the field's text, if any
abbrev pub field_text : SeenField → List ℕ
field_text field = option_map_or (λ text. tab ++ text) field.value.text []

-- the fields with a JSON value
abbrev pub members : List SeenField → Members
members [] = no_members
members (field ∷ fields) = option_map_or (λ json. member field.key json (members fields))
    field.value.json (members fields)

-- a line: the first field in text, and the other fields
abbrev pub Line : Type 0
Line = record { head : List ℕ; fields : List SeenField }

abbrev pub seen_line : List ℕ → List (Bor (List ℕ) × Value) → Line
seen_line head fields = record { head = head; fields = map seen_field fields }

abbrev pub line_text : Line → List ℕ
line_text line = line.head ++ flat_map field_text line.fields ++ line_feed

abbrev pub line_json : Line → Json
line_json line = object (members line.fields)
