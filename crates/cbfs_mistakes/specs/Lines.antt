-- The mistakes of a line whose arguments clap accepts.
use Rattle.std.specs.Prelude.{ℕ, Bool, List, [], ◌∷◌, length, ◌==◌, ◌||◌, nat_lt, Option}
use Rattle.std.specs.Prelude.{Some, None, is_none, is_some, false, find, option_and_then}
use Rattle.std.specs.Prelude.{if◌then◌else◌}
use Rattle.std.specs.List.{list_any, slice_split}
use Rattle.std.specs.Option.{option_map_or, option_or}
use Rattle.std.specs.Str.{bytes_eq}
use Prim.Native.String.{String}
use lib.Chars.{codes}
use Rattle.flash_format.specs.Made.{algorithm_named}
use Rattle.flash_format.specs.Numbers.{number_of}
use Rattle.flash_format.specs.TypeNames.{type_of_text}
use Rattle.cbfs_line.specs.CommandLine.{Texts, region_named, text}
use Rattle.cbfs_mistakes.specs.declared.mistake.MissingOptions.{MissingOptions}
use Rattle.cbfs_mistakes.specs.declared.mistake.NumberOption.{NumberOption}
use Rattle.cbfs_mistakes.specs.declared.mistake.NumberOption.TheVariants.{Alignment, Base}

-- a mistake, with the texts named in the explanation
pub data Cause : Type 0 where
  missing : List ℕ → MissingOptions → Cause
  two_places : Cause
  bad_number : NumberOption → List ℕ → Cause
  unknown_type : List ℕ → Cause
  unknown_hash : List ℕ → Cause
  empty_region : List ℕ → Cause
  too_many_regions : Cause
  unknown_command : List ℕ → Cause

abbrev pub no_options : MissingOptions
no_options = record { name = false; file = false; flash_map = false; kind = false }

-- some option is missing
abbrev pub has_missing : MissingOptions → Bool
has_missing options = options.name || options.file || options.flash_map || options.kind

-- a value of `-a` or `-b` that is no number
abbrev pub number_cause : NumberOption → List ℕ → Option Cause
number_cause option value =
    if is_some (number_of value) then None else Some (bad_number option value)

-- `-a` with `-b`, or a value that is no number
abbrev pub place_cause : Option (List ℕ) → Option (List ℕ) → Option Cause
place_cause None None = None
place_cause (Some alignment) None = number_cause Alignment alignment
place_cause None (Some base) = number_cause Base base
place_cause (Some alignment) (Some base) = Some two_places

abbrev pub type_cause : List ℕ → Option Cause
type_cause value = if is_some (type_of_text value) then None else Some (unknown_type value)

abbrev pub hash_cause : List ℕ → Option Cause
hash_cause value = if is_some (algorithm_named value) then None else Some (unknown_hash value)

-- at most 16 names between commas, none empty
abbrev pub regions_cause : List ℕ → Option Cause
regions_cause list = let names = slice_split (λ b. b == 44) list in
    if nat_lt 16 (length names) then Some too_many_regions
    else (if list_any (λ name. length name == 0) names then Some (empty_region list) else None)

module _ (t : Texts) where
  -- the option has no value
  abbrev pub lacks : String → Bool
  lacks id = is_none (text t id)

  abbrev pub missing_among : MissingOptions → Option Cause
  missing_among options = if has_missing options then Some (missing t.subcommand options) else None

  abbrev pub file_cause : Option Cause
  file_cause = missing_among (record no_options { file = lacks "file" })

  abbrev pub name_cause : Option Cause
  name_cause = missing_among (record no_options { name = lacks "name" })

  abbrev pub named_file_cause : Option Cause
  named_file_cause =
      missing_among (record no_options { name = lacks "name"; file = lacks "file" })

  abbrev pub addition_cause : Option Cause
  addition_cause = option_or (option_or (option_or (missing_among (record no_options {
    name = lacks "name";
    file = lacks "file";
    kind = lacks "type";
  }))
      (option_and_then type_cause (text t "type")))
      (place_cause (text t "alignment") (text t "base")))
      (option_and_then hash_cause (text t "hash"))

  abbrev pub creation_cause : Option Cause
  creation_cause = option_or (missing_among (record no_options { flash_map = lacks "file" }))
      (regions_cause (region_named t))

  -- The first mistake, by subcommand: all missing options, then the first bad value in this order.
  abbrev pub cause_of : Option Cause
  cause_of = let causes : List (String × Option Cause) =
      ("print", None) ∷ ("layout", None) ∷ ("extract", named_file_cause)
      ∷ ("add", addition_cause) ∷ ("remove", name_cause) ∷ ("read", file_cause)
      ∷ ("write", file_cause) ∷ ("create", creation_cause) ∷ [] in
      option_map_or (λ row. row.1) (find (λ row. bytes_eq t.subcommand (codes row.0)) causes)
      (Some (unknown_command t.subcommand))
