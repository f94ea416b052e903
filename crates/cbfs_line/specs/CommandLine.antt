-- The command line by clap's definition, and its command.
use Rattle.std.specs.Prelude.{◌≡◌, ℕ, Bool, false, List, [], ◌∷◌, length, ◌==◌, ◌||◌, nat_lt}
use Rattle.std.specs.Prelude.{Option, Some, None, Result, Ok, Err, option_map, option_and_then}
use Rattle.std.specs.Prelude.{find, unwrap_or, if◌then◌else◌}
use Rattle.std.specs.List.{list_any, slice_split}
use Rattle.std.specs.Option.{option_map_or}
use Rattle.std.specs.Result.{result_map_both}
use Rattle.std.specs.Str.{bytes_eq}
use Prim.Native.String.{String}
use lib.Chars.{codes}
use Rattle.clap.specs.Words.{IsAmong, Row, fault_of, first_of}
use Rattle.clap.specs.declared.error.kind.ErrorKind.{ErrorKind}
use Rattle.clap.specs.Words as clap
use Rattle.cbfs_line.specs.Subcommands.{command_line}
use Rattle.flash_format.specs.Numbers.{number_of}
use Rattle.flash_format.specs.Made.{algorithm_named}
use Rattle.flash_format.specs.TypeNames.{type_of_text}
use Rattle.cbfs_edit.specs.declared.addition.HashChoice.{HashChoice}
use Rattle.cbfs_edit.specs.declared.addition.HashChoice.TheVariants.{Plain}
use Rattle.cbfs_edit.specs.Additions.{choice_of}
use Rattle.cbfs_edit.specs.declared.place.Spot.{Spot}
use Rattle.cbfs_edit.specs.declared.place.Spot.TheVariants.{First, Aligned, Fixed}
use Rattle.cbfs_requests.specs.Requests.{Request, Task, request_of}
use Rattle.cbfs_requests.specs.Requests as requests
use Rattle.cbfs_requests.specs.declared.command.Command.{Command}
use Rattle.cbfs_requests.specs.declared.refusal.Refusal.{Refusal}
use Rattle.cbfs_requests.specs.declared.refusal.Refusal.TheVariants as refusals

-- the image's path, the subcommand, and the options
pub record Texts : Type 0 where
  pub image : List ℕ
  pub subcommand : List ℕ
  pub options : List Row

abbrev pub with_image : List ℕ → List ℕ × List Row → Texts
with_image image found = record { image = image; subcommand = found.0; options = found.1 }

-- None if clap refuses the arguments
abbrev pub texts_of : List (List ℕ) → Option Texts
texts_of [] = None
texts_of (image ∷ rest) = option_map (with_image image) (clap.subcommand_of command_line rest)

-- clap accepts the arguments after IMAGE, or may refuse them with the kind
abbrev pub IsKindFor : List (List ℕ) → Option ErrorKind → Type 0
IsKindFor words None = fault_of command_line words ≡ []
IsKindFor words (Some kind) = IsAmong kind (fault_of command_line words)

-- whether `-v` is present: its text is then "true"
abbrev pub verbose_by : Option (List ℕ) → Bool
verbose_by text = option_map_or (λ told. bytes_eq told (codes "true")) text false

-- the value of `-a` or `-b`, not both
abbrev pub spot_by : Option (List ℕ) → Option (List ℕ) → Option Spot
spot_by None None = Some First
spot_by (Some alignment) None = option_map Aligned (number_of alignment)
spot_by None (Some base) = option_map Fixed (number_of base)
spot_by (Some alignment) (Some base) = None

-- None without `-A`
abbrev pub hash_by : Option (List ℕ) → Option HashChoice
hash_by text = option_map_or (λ name. option_map choice_of (algorithm_named name)) text (Some Plain)

-- at most 16 names between commas, none empty
abbrev pub creation_of : List ℕ → Result Request Refusal
creation_of list = let names = slice_split (λ b. b == 44) list in
    if nat_lt 16 (length names) || list_any (λ name. length name == 0) names
    then Err refusals.Usage else Ok (requests.create names)

-- ---- the request

module _ (t : Texts) where
  abbrev pub text : String → Option (List ℕ)
  text id = first_of (codes id) t.options

  -- the value of `-r`, or the default
  abbrev pub region_named : List ℕ
  region_named = unwrap_or (text "region") (codes "COREBOOT")

  abbrev pub on_region : Task → Result Request Refusal
  on_region task = Ok (requests.on_region region_named task)

  -- a missing option is a bad command line
  abbrev pub with_file : Result Request Refusal → Result Request Refusal
  with_file request = option_map_or (λ path. request) (text "file") (Err refusals.Usage)

  abbrev pub with_name : (List ℕ → Task) → Result Request Refusal
  with_name task = option_map_or (λ name. on_region (task name)) (text "name") (Err refusals.Usage)

  -- requires a name and valid options
  abbrev pub addition_by : Option ℕ → Option HashChoice → Option Spot → Result Request Refusal
  addition_by (Some kind) (Some hash) (Some spot) =
      with_name (λ name. requests.add name kind hash spot)
  addition_by _ _ _ = Err refusals.Usage

  abbrev pub addition : Result Request Refusal
  addition = with_file (addition_by (option_and_then type_of_text (text "type"))
      (hash_by (text "hash")) (spot_by (text "alignment") (text "base")))

  -- by subcommand
  abbrev pub command_of : Result Request Refusal
  command_of = let requests : List (String × Result Request Refusal) =
      ("print", on_region (requests.print (verbose_by (text "verbose"))))
      ∷ ("layout", Ok requests.layout) ∷ ("extract", with_file (with_name requests.extract))
      ∷ ("add", addition) ∷ ("remove", with_name requests.remove)
      ∷ ("read", with_file (on_region requests.read))
      ∷ ("write", with_file (on_region requests.write))
      ∷ ("create", with_file (creation_of region_named)) ∷ [] in
      option_map_or (λ row. row.1) (find (λ row. bytes_eq t.subcommand (codes row.0)) requests)
      (Err refusals.Usage)

abbrev pub request_answer : Result Command Refusal → Result Request Refusal
request_answer answer = result_map_both request_of (λ refusal. refusal) answer

-- ---- the arguments after the program's name, from the definitions above

-- the command of accepted arguments
abbrev pub command_in : List (List ℕ) → Result Request Refusal
command_in [] = Err refusals.Usage
command_in (image ∷ rest) = if length (fault_of command_line rest) == 0
    then option_map_or command_of (texts_of (image ∷ rest)) (Err refusals.Usage)
    else Err refusals.Usage
