-- A line has a cause exactly if it is no command.
use Rattle.std.proofs.Common.{◌≡◌, ◌∙◌, ℕ, Bool, true, false, List, [], ◌∷◌, map, Option, Some, None, Result, Ok, Err, refl, ap, sym}
use Rattle.std.specs.Prelude.{⊤, ◌||◌, find, is_some, is_none, is_err, nat_lt, length, ◌==◌, option_and_then, option_map, if◌then◌else◌}
use Rattle.std.specs.List.{list_any, slice_split}
use Rattle.std.specs.Option.{option_map_or, option_or}
use Rattle.std.specs.Str.{bytes_eq}
use Prim.Native.String.{String}
use lib.Chars.{codes}
use Rattle.cbfs_edit.specs.declared.addition.HashChoice.{HashChoice}
use Rattle.cbfs_edit.specs.declared.place.Spot.{Spot}
use Rattle.cbfs_edit.specs.declared.place.Spot.TheVariants.{Aligned, Fixed}
use Rattle.cbfs_edit.specs.Additions.{choice_of}
use Rattle.cbfs_requests.specs.Requests.{Request}
use Rattle.cbfs_requests.specs.Requests as requests
use Rattle.cbfs_requests.specs.declared.refusal.Refusal.{Refusal}
use Rattle.cbfs_requests.specs.declared.refusal.Refusal.TheVariants as refusals
use Rattle.flash_format.specs.declared.digest.Algorithm.{Algorithm}
use Rattle.flash_format.specs.Made.{algorithm_named}
use Rattle.flash_format.specs.Numbers.{number_of}
use Rattle.flash_format.specs.TypeNames.{type_of_text}
use Rattle.cbfs_line.specs.CommandLine.{Texts, addition, addition_by, command_of, creation_of, hash_by, on_region, region_named, spot_by, text, verbose_by, with_file, with_name}
use Rattle.cbfs_mistakes.specs.declared.mistake.MissingOptions.{MissingOptions}
use Rattle.cbfs_mistakes.specs.declared.mistake.NumberOption.{NumberOption}
use Rattle.cbfs_mistakes.specs.declared.mistake.NumberOption.TheVariants.{Alignment, Base}
use Rattle.cbfs_mistakes.specs.Lines.{Cause, addition_cause, bad_number, cause_of, creation_cause, file_cause, name_cause, named_file_cause, empty_region, has_missing, hash_cause, missing_among, no_options, place_cause, regions_cause, too_many_regions, type_cause, unknown_hash, unknown_type}

-- a command's name, cause and request
abbrev pub Row : Type 0
Row = String × (Option Cause × Result Request Refusal)

abbrev pub AllAgree : List Row → Type 0
AllAgree [] = ⊤
AllAgree (row ∷ rows) = (is_some row.1.0 ≡ is_err row.1.1) × AllAgree rows

abbrev pub cause_in : List ℕ → List Row → Cause → Option Cause
cause_in word rows c = option_map_or (λ (row : String × Option Cause). row.1)
    (find (λ (row : String × Option Cause). bytes_eq word (codes row.0)) (map (λ (row : Row). (row.0, row.1.0)) rows)) (Some c)

abbrev pub request_in : List ℕ → List Row → Refusal → Result Request Refusal
request_in word rows e = option_map_or (λ (row : String × Result Request Refusal). row.1)
    (find (λ (row : String × Result Request Refusal). bytes_eq word (codes row.0)) (map (λ (row : Row). (row.0, row.1.1)) rows)) (Err e)

picked : (b : Bool) (k : String) (c : Option Cause) (r : Result Request Refusal)
    (cs : Option (String × Option Cause)) (rs : Option (String × Result Request Refusal)) (d : Cause) (e : Refusal)
    → is_some c ≡ is_err r
    → is_some (option_map_or (λ (row : String × Option Cause). row.1) cs (Some d)) ≡ is_err (option_map_or (λ (row : String × Result Request Refusal). row.1) rs (Err e))
    → is_some (option_map_or (λ (row : String × Option Cause). row.1) (if b then Some (k, c) else cs) (Some d))
    ≡ is_err (option_map_or (λ (row : String × Result Request Refusal). row.1) (if b then Some (k, r) else rs) (Err e))
picked true k c r cs rs d e here rest = here
picked false k c r cs rs d e here rest = rest

agree : (word : List ℕ) (rows : List Row) (d : Cause) (e : Refusal) → AllAgree rows
    → is_some (cause_in word rows d) ≡ is_err (request_in word rows e)
agree word [] d e all = refl
agree word (row ∷ rows) d e all =
    picked (bytes_eq word (codes row.0)) row.0 row.1.0 row.1.1
    (find (λ (row : String × Option Cause). bytes_eq word (codes row.0)) (map (λ (row : Row). (row.0, row.1.0)) rows))
    (find (λ (row : String × Result Request Refusal). bytes_eq word (codes row.0)) (map (λ (row : Row). (row.0, row.1.1)) rows))
    d e all.0 (agree word rows d e all.1)

file : (t : Texts) (f : Option (List ℕ)) (r : Request)
    → is_some (missing_among t (record no_options { file = is_none f })) ≡ is_err (option_map_or (λ (p : List ℕ). Ok r) f (Err refusals.Usage))
file t None r = refl
file t (Some p) r = refl

name : (t : Texts) (n : Option (List ℕ)) (g : List ℕ → Request)
    → is_some (missing_among t (record no_options { name = is_none n })) ≡ is_err (option_map_or (λ (p : List ℕ). Ok (g p)) n (Err refusals.Usage))
name t None g = refl
name t (Some p) g = refl

named_file : (t : Texts) (n f : Option (List ℕ)) (g : List ℕ → Request)
    → is_some (missing_among t (record no_options { name = is_none n; file = is_none f }))
    ≡ is_err (option_map_or (λ (p : List ℕ). option_map_or (λ (p : List ℕ). Ok (g p)) n (Err refusals.Usage)) f (Err refusals.Usage))
named_file t None None g = refl
named_file t None (Some f) g = refl
named_file t (Some n) None g = refl
named_file t (Some n) (Some f) g = refl

regions : (list : List ℕ) → is_some (regions_cause list) ≡ is_err (creation_of list)
regions list = many (nat_lt 16 (length names)) (list_any (λ name. length name == 0) names)
  where
    names : List (List ℕ)
    names = slice_split (λ b. b == 44) list

    many : (b e : Bool) → is_some (if b then Some (too_many_regions) else (if e then Some (empty_region list) else None))
        ≡ is_err (if b || e then Err refusals.Usage else Ok (requests.create names))
    many true e = refl
    many false true = refl
    many false false = refl

-- of `create`
creation : (t : Texts) (f : Option (List ℕ)) (c : Option Cause) (r : Result Request Refusal) → is_some c ≡ is_err r
    → is_some (option_or (missing_among t (record no_options { flash_map = is_none f })) c)
    ≡ is_err (option_map_or (λ (p : List ℕ). r) f (Err refusals.Usage))
creation t None c r same = refl
creation t (Some f) c r same = same

-- ---- of `add`

or_some : (a b : Option Cause) → is_some (option_or a b) ≡ is_some a || is_some b
or_some None b = refl
or_some (Some c) b = refl

missing_some : (t : Texts) (options : MissingOptions) → is_some (missing_among t options) ≡ has_missing options
missing_some t options = chosen (has_missing options)
  where
    chosen : (b : Bool) → is_some (if b then Some (Rattle.cbfs_mistakes.specs.Lines.missing t.subcommand options) else None) ≡ b
    chosen true = refl
    chosen false = refl

-- a missing type, or one without a number
types : (value : Option (List ℕ)) → is_none (option_and_then type_of_text value) ≡ is_none value || is_some (option_and_then type_cause value)
types None = refl
types (Some v) = read (type_of_text v)
  where
    read : (k : Option ℕ) → is_none k ≡ is_some (if is_some k then None else Some (unknown_type v))
    read None = refl
    read (Some k) = refl

hashes : (value : Option (List ℕ)) → is_none (hash_by value) ≡ is_some (option_and_then hash_cause value)
hashes None = refl
hashes (Some v) = read (algorithm_named v)
  where
    read : (a : Option Algorithm) → is_none (option_map choice_of a) ≡ is_some (if is_some a then None else Some (unknown_hash v))
    read None = refl
    read (Some a) = refl

number : (option : NumberOption) (v : List ℕ) (f : ℕ → Spot) (n : Option ℕ)
    → is_none (option_map f n) ≡ is_some (if is_some n then None else Some (bad_number option v))
number option v f None = refl
number option v f (Some n) = refl

places : (alignment base : Option (List ℕ)) → is_none (spot_by alignment base) ≡ is_some (place_cause alignment base)
places None None = refl
places (Some a) None = number Alignment a Aligned (number_of a)
places None (Some b) = number Base b Fixed (number_of b)
places (Some a) (Some b) = refl

by_name : (n : Option (List ℕ)) (g : List ℕ → Request) → is_err (option_map_or (λ (p : List ℕ). Ok (g p)) n (Err refusals.Usage)) ≡ is_none n
by_name None g = refl
by_name (Some p) g = refl

by_file : (f : Option (List ℕ)) (r : Result Request Refusal) → is_err (option_map_or (λ (p : List ℕ). r) f (Err refusals.Usage)) ≡ is_none f || is_err r
by_file None r = refl
by_file (Some p) r = refl

requested : (t : Texts) (kind : Option ℕ) (hash : Option HashChoice) (spot : Option Spot)
    → is_err (addition_by t kind hash spot) ≡ is_none kind || (is_none hash || (is_none spot || is_none (text t "name")))
requested t None hash spot = refl
requested t (Some k) None spot = refl
requested t (Some k) (Some h) None = refl
requested t (Some k) (Some h) (Some s) = by_name (text t "name") _

or_true : (b : Bool) → b || true ≡ true
or_true true = refl
or_true false = refl

-- the same conditions in two orders
ordered : (name file kind bad_kind place hash : Bool)
    → ((((((name || file) || false) || kind) || bad_kind) || place) || hash) ≡ file || ((kind || bad_kind) || (hash || (place || name)))
ordered true file kind bad_kind place hash =
    sym (ap (λ b. file || ((kind || bad_kind) || (hash || b))) (or_true place)
    ∙ (ap (λ b. file || ((kind || bad_kind) || b)) (or_true hash)
    ∙ (ap (λ b. file || b) (or_true (kind || bad_kind)) ∙ or_true file)))
ordered false true kind bad_kind place hash = refl
ordered false false true bad_kind place hash = refl
ordered false false false true place hash = refl
ordered false false false false true true = refl
ordered false false false false true false = refl
ordered false false false false false true = refl
ordered false false false false false false = refl

added : (t : Texts) → is_some (addition_cause t) ≡ is_err (addition t)
added t =
    let name = is_none (text t "name") in
    let file = is_none (text t "file") in
    let kind = is_none (text t "type") in
    let lacking = missing_among t (record no_options { name = name; file = file; kind = kind }) in
    let bad_kind = option_and_then type_cause (text t "type") in
    let place = place_cause (text t "alignment") (text t "base") in
    let hash = option_and_then hash_cause (text t "hash") in
    or_some (option_or (option_or lacking bad_kind) place) hash
    ∙ (ap (λ b. b || is_some hash) (or_some (option_or lacking bad_kind) place)
    ∙ (ap (λ b. (b || is_some place) || is_some hash) (or_some lacking bad_kind)
    ∙ (ap (λ b. ((b || is_some bad_kind) || is_some place) || is_some hash) (missing_some t (record no_options { name = name; file = file; kind = kind }))
    ∙ (ordered name file kind (is_some bad_kind) (is_some place) (is_some hash)
    ∙ sym (by_file (text t "file") _
    ∙ ap (λ b. file || b) (requested t _ _ _
    ∙ (ap (λ b. b || (is_none (hash_by (text t "hash")) || (is_none (spot_by (text t "alignment") (text t "base")) || name))) (types (text t "type"))
    ∙ (ap (λ b. (kind || is_some bad_kind) || (b || (is_none (spot_by (text t "alignment") (text t "base")) || name))) (hashes (text t "hash"))
    ∙ ap (λ b. (kind || is_some bad_kind) || (is_some hash || (b || name))) (places (text t "alignment") (text t "base"))))))))))

-- ---- of every command

pub exact : (t : Texts) → is_some (cause_of t) ≡ is_err (command_of t)
exact t = agree t.subcommand (
    ("print", (None, on_region t (requests.print (verbose_by (text t "verbose"))))) ∷ ("layout", (None, Ok requests.layout))
    ∷ ("extract", (named_file_cause t, with_file t (with_name t requests.extract))) ∷ ("add", (addition_cause t, addition t))
    ∷ ("remove", (name_cause t, with_name t requests.remove)) ∷ ("read", (file_cause t, with_file t (on_region t requests.read)))
    ∷ ("write", (file_cause t, with_file t (on_region t requests.write))) ∷ ("create", (creation_cause t, with_file t (creation_of (region_named t)))) ∷ [])
    _ _ (refl, (refl, (named_file t _ _ _, (added t, (name t _ _, (file t _ _, (file t _ _, (creation t _ _ _ (regions (region_named t)), tt))))))))
