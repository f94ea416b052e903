-- The arguments of cbfscheck by clap's definitions, and their requests.
use Rattle.std.specs.Prelude.{ℕ, Bool, true, false, not, List, [], ◌∷◌, length, map, take, ◌<◌}
use Rattle.std.specs.Prelude.{◌≤◌, ◌==◌, ◌&&◌, ◌||◌, ◌≡◌, ◌≢◌, ◌⊎◌, ⊤, Option, Some, None, is_some}
use Rattle.std.specs.Prelude.{is_none, option_and_then, option_map, Result, Ok, Err, MatchOption, if◌then◌else◌}
use Rattle.std.specs.Prelude.{find, take_while, filter_map, slice_get, nat_eq, nat_lt}
use Rattle.std.specs.Borrow.{Bor}
use Rattle.std.specs.List.{after_first, before_first, list_any, slice_split, starts_with}
use Rattle.std.specs.Option.{option_copied, option_map_or, option_or}
use Rattle.std.specs.Path.{rsplit_once}
use Rattle.std.specs.Str.{bytes_eq}
use Prim.Native.String.{String}
use lib.Chars.{codes}
use Rattle.flash_format.specs.Numbers.{number_of}
use Rattle.clap.specs.Words.{App, IsAmong, Row, Rule, fault_of, first_of, matches_of, new_rule}
use Rattle.clap.specs.Simple.{new_shape}
use Rattle.clap.specs.declared.builder.action.ArgAction.TheVariants.{SetTrue}
use Rattle.clap.specs.declared.error.kind.ErrorKind.{ErrorKind}
use Rattle.clap.specs.declared.error.kind.ErrorKind.TheVariants as reason
use Rattle.check_findings.specs.Needs.{NeedBytes, need_bytes}
use Rattle.check_findings.specs.declared.image.needs.NeededPlace.{NeededPlace}
use Rattle.check_findings.specs.declared.image.needs.NeededPlace.TheVariants.{Any, At, End}
use Rattle.check_line.specs.declared.fault.LineFault.{LineFault}
use Rattle.check_line.specs.declared.fault.LineFault.TheVariants.{Word, NoImage, NoNewImage}
use Rattle.check_line.specs.declared.fault.LineFault.TheVariants.{NestedFile, Memory}
use Rattle.check_line.specs.declared.fault.WordFault.{WordFault}
use Rattle.check_line.specs.declared.fault.WordFault.TheVariants as mistake
use Rattle.check_line.specs.declared.line.Invocation.{Invocation}
use Rattle.check_line.specs.declared.line.Invocation.TheVariants.{Help, Version, Check}
use Rattle.check_line.specs.declared.line.CheckLine.{CheckLine}

abbrev pub Words : Type 0
Words = List (Bor (List ℕ))

abbrev pub texts : Words → List (List ℕ)
texts words = map (λ (word : Bor (List ℕ)). word.now) words

-- `--NAME VALUE`
abbrev pub long_option : List ℕ → Rule
long_option name = record (new_rule name) { long = Some name }

-- without a value
abbrev pub flag : Rule → Rule
flag rule = record rule { action = Some SetTrue }

-- paths of an image and of a new image, and options
abbrev pub check_words : App
check_words = record {
  top = record (new_shape (codes "cbfscheck")) {
    no_binary_name = true;
    rules = new_rule (codes "image") ∷ new_rule (codes "new")
        ∷ record (new_rule (codes "areas")) { short = Some 114 }
        ∷ flag (record (new_rule (codes "verbose")) { short = Some 118 })
        ∷ flag (long_option (codes "json")) ∷ flag (long_option (codes "list"))
        ∷ long_option (codes "keep") ∷ flag (long_option (codes "keep-preserved"))
        ∷ flag (long_option (codes "flash")) ∷ flag (long_option (codes "all-hashed"))
        ∷ long_option (codes "need") ∷ [];
  };
  subs = [];
}

-- ---- the required component of `--need`: AREA:NAME, or AREA:NAME@OFFSET

-- `end`, or a number
abbrev pub needed_place : List ℕ → Option NeededPlace
needed_place offset = if bytes_eq offset (codes "end") then Some End
    else option_map At (number_of offset)

-- a place only after an `@` (64)
abbrev pub named_in : List ℕ → Option (List ℕ × NeededPlace)
named_in text = option_map_or (λ parts. option_map (λ place. (parts.0, place))
    (needed_place parts.1)) (rsplit_once 64 text) (Some (text, Any))

-- The area ends at the first colon (58); without a colon, the name is empty. Area and name aren't
-- empty.
abbrev pub need_in : List ℕ → Option NeedBytes
need_in text = let area = before_first (λ b. b == 58) text in option_and_then
    (λ named. if length named.0 == 0 || length area == 0 then None
    else Some (record { area = area; name = named.0; place = named.1 }))
    (named_in (after_first (λ b. b == 58) text))

-- ---- the options

-- a fault of accepted arguments, or of an option file: its path, and a line that names another one
pub data Complaint : Type 0 where
  no_image : Complaint
  no_new_image : Complaint
  nested : List ℕ → List ℕ → Complaint
  wrong : WordFault → List ℕ → Complaint

-- between commas (44)
abbrev pub parts_of : Option (List ℕ) → List (List ℕ)
parts_of list = option_map_or (slice_split (λ b. b == 44)) list []

-- a list with an empty name
abbrev pub bad_areas : Option (List ℕ) → Option Complaint
bad_areas list = if list_any (λ name. length name == 0) (parts_of list)
    then option_map (wrong mistake.BadAreas) list else None

-- the first bad part
abbrev pub bad_need : Option (List ℕ) → Option Complaint
bad_need list =
    option_map (wrong mistake.BadNeed) (find (λ part. is_none (need_in part)) (parts_of list))

-- the value of an option, or a path
abbrev pub value : String → List Row → Option (List ℕ)
value name rows = first_of (codes name) rows

-- an option without a value
abbrev pub is_set : Option (List ℕ) → Bool
is_set text = option_map_or (λ text. bytes_eq text (codes "true")) text false

-- an option for two images
abbrev pub compares : List Row → Bool
compares rows = (is_some (value "keep" rows) || is_set (value "keep-preserved" rows))
    || is_set (value "flash" rows)

abbrev pub complaint_in : List Row → Option Complaint
complaint_in rows = if is_none (value "image" rows) then Some no_image
    else (if is_none (value "new" rows) && compares rows then Some no_new_image
    else option_or (bad_areas (value "areas" rows))
    (option_or (bad_areas (value "keep" rows)) (bad_need (value "need" rows))))

-- the images and options of clap's matches
pub record IsLineOf (rows : List Row) (line : CheckLine) : Type 0 where
  pub image : value "image" rows ≡ Some line.image.now
  pub new_image : value "new" rows ≡ option_copied line.new_image
  pub areas : texts line.areas.items ≡ parts_of (value "areas" rows)
  pub is_verbose : line.is_verbose ≡ is_set (value "verbose" rows)
  pub is_json : line.is_json ≡ is_set (value "json" rows)
  pub lists : line.lists ≡ is_set (value "list" rows)
  pub kept : texts line.kept.items ≡ parts_of (value "keep" rows)
  pub keeps_preserved : line.keeps_preserved ≡ is_set (value "keep-preserved" rows)
  pub is_flash : line.is_flash ≡ is_set (value "flash" rows)
  pub needs_hashes : line.needs_hashes ≡ is_set (value "all-hashed" rows)
  pub needs : map need_bytes line.needs.items ≡ filter_map need_in (parts_of (value "need" rows))

-- a value with the property, or else the complaint; or an allocation fails
abbrev pub Gives : {T : Type 0} → Option Complaint → (T → Type 0) → Result T LineFault → Type 0
Gives complaint Is (Ok given) = (complaint ≡ None) × Is given
Gives complaint Is (Err (Word fault word)) = complaint ≡ Some (wrong fault word.now)
Gives complaint Is (Err NoImage) = complaint ≡ Some no_image
Gives complaint Is (Err NoNewImage) = complaint ≡ Some no_new_image
Gives complaint Is (Err (NestedFile path line)) = complaint ≡ Some (nested path.now line.now)
Gives complaint Is (Err Memory) = ⊤

-- ---- the wrong argument

abbrev pub IsAccepted : Words → Type 0
IsAccepted words = fault_of check_words (texts words) ≡ []

-- for this reason
abbrev pub IsRefusedFor : ErrorKind → Words → Type 0
IsRefusedFor kind words = IsAmong kind (fault_of check_words (texts words))

-- accepted, or refused for another reason
abbrev pub Spares : ErrorKind → Words → Type 0
Spares kind words = IsAccepted words
    ⊎ ((other : ErrorKind) × (other ≢ kind) × IsRefusedFor other words)

-- Earlier arguments alone aren't refused for this reason. With this argument, and any number of
-- later ones, they are.
pub record IsWrong (kind : ErrorKind) (words : Words) (word : Bor (List ℕ)) : Type 0 where
  pub n : ℕ
  pub here : slice_get words n ≡ Some word
  pub before : Spares kind (take n words)
  pub from : (m : ℕ) → n < m → m ≤ length words → IsRefusedFor kind (take m words)

-- the wrong argument is sought among all, or among at least so many
abbrev pub least_searched : ℕ
least_searched = 64

-- The line is refused for this reason, and so are the searched arguments: all, or the first ones.
pub record AreSearched (kind : ErrorKind) (words searched : Words) : Type 0 where
  pub whole : IsRefusedFor kind words
  pub refused : IsRefusedFor kind searched
  pub first : searched ≡ take (length searched) words
  pub far : (searched ≡ words) ⊎ (least_searched ≤ length searched)

-- an option is `-` and more
abbrev pub word_fault : ErrorKind → List ℕ → WordFault
word_fault reason.InvalidValue word = mistake.MissingValue
word_fault reason.TooManyValues word = mistake.UnneededValue
word_fault reason.ArgumentConflict word = mistake.GivenTwice
word_fault kind word = if starts_with nat_eq word (codes "-") && nat_lt 1 (length word)
    then mistake.UnknownOption else mistake.TooManyPaths

-- ---- the result

-- the first argument for the help or the version, before `--`, which ends the options
abbrev pub request_in : Words → Option (Bor (List ℕ))
request_in words =
    find (λ word. list_any (bytes_eq word.now) (map codes ("-h" ∷ "--help" ∷ "--version" ∷ [])))
    (take_while (λ word. not (bytes_eq word.now (codes "--"))) words)

-- for arguments refused by clap, or with help as the result
abbrev pub IsRefusal : Words → Result Invocation LineFault → Type 0
IsRefusal words (Ok Help) = IsRefusedFor reason.DisplayHelp words
IsRefusal words (Err (Word fault word)) = (kind : ErrorKind) × (kind ≢ reason.DisplayHelp)
    × ((searched : Words) × AreSearched kind words searched × IsWrong kind searched word)
    × (fault ≡ word_fault kind word.now)
IsRefusal words (Err Memory) = ⊤
IsRefusal words result = ⊥

-- for the arguments after the program's name: by clap's definitions, or the requested text
abbrev pub Answers : Words → Result Invocation LineFault → Type 0
Answers words result = let rows = matches_of check_words (texts words) in
    MatchOption (request_in words) ((IsAccepted words × Gives (complaint_in rows)
    (λ asked. (line : CheckLine) × (asked ≡ Check line) × IsLineOf rows line) result)
    ⊎ IsRefusal words result)
    (λ word. result ≡ Ok (if bytes_eq word.now (codes "--version") then Version else Help))
