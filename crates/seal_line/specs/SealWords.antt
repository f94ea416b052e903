-- The arguments of cbfsseal, and their request.
use Rattle.std.specs.Prelude.{ℕ, ◌+◌, Bool, not, List, [], ◌∷◌, ◌++◌, length, take, drop, filter, count_by}
use Rattle.std.specs.Prelude.{◌&&◌, ◌||◌, ◌==◌, Option, Some, None, Result, Ok, Err, if◌then◌else◌, nat_eq, nat_lt}
use Rattle.std.specs.Borrow.{Bor}
use Rattle.std.specs.List.{find, list_all, position, starts_with}
use Rattle.std.specs.Option.{option_map_or}
use Rattle.std.specs.Str.{bytes_eq}
use Prim.Native.String.{String}
use lib.Chars.{codes}
use Rattle.cbfs_anchor.specs.declared.demand.Demand.TheVariants.{Found, Loaded}
use Rattle.seal_line.specs.declared.line.Invocation.{Invocation}
use Rattle.seal_line.specs.declared.line.Invocation.TheVariants.{Usage, Help, Version, Seal}
use Rattle.seal_line.specs.declared.line.SealLine.{SealLine}
use Rattle.seal_line.specs.declared.refusal.Refusal.{Refusal}
use Rattle.seal_line.specs.declared.refusal.Refusal.TheVariants as refusals

abbrev pub Words : Type 0
Words = List (Bor (List ℕ))

abbrev pub is_text : String → List ℕ → Bool
is_text text word = bytes_eq word (codes text)

-- the first `--` ends the options
abbrev pub end_of : Words → Option ℕ
end_of words = position (λ word. is_text "--" word.now) words

abbrev pub before_end : Words → Words
before_end words = option_map_or (λ n. take n words) (end_of words) words

abbrev pub after_end : Words → Words
after_end words = option_map_or (λ n. drop (n + 1) words) (end_of words) []

-- `-` and more
abbrev pub is_option : List ℕ → Bool
is_option word = starts_with nat_eq word (codes "-") && nat_lt 1 (length word)

-- a path, or one of the two options
abbrev pub is_known : List ℕ → Bool
is_known word = not (is_option word) || is_text "-v" word || is_text "--allow-unhashed" word

abbrev pub uses : String → Words → ℕ
uses text words = count_by (λ word. is_text text word.now) words

-- all options are known, and none is given twice
abbrev pub has_known_options : Words → Bool
has_known_options words = list_all (λ word. is_known word.now) words
    && nat_lt (uses "-v" words) 2 && nat_lt (uses "--allow-unhashed" words) 2

-- the first argument for the help or the version
abbrev pub request_in : Words → Option (Bor (List ℕ))
request_in words = find (λ word. is_text "-h" word.now || is_text "--help" word.now
    || is_text "--version" word.now) words

-- all arguments but the options
abbrev pub paths : Words → Words
paths words = filter (λ word. not (is_option word.now)) (before_end words) ++ after_end words

-- the element of a list with one element
abbrev pub only : Words → Option (Bor (List ℕ))
only (word ∷ []) = Some word
only _ = None

-- `-v` and `--allow-unhashed`
abbrev pub line_with : Words → Bor (List ℕ) → SealLine
line_with options path = record {
  image = path;
  is_verbose = uses "-v" options == 1;
  demand = if uses "--allow-unhashed" options == 1 then Found else Loaded;
}

-- a path, and known options
abbrev pub seal_of : Words → Result Invocation Refusal
seal_of words = let options = before_end words in if has_known_options options
    then option_map_or (λ path. Ok (Seal (line_with options path))) (only (paths words))
    (Err refusals.Usage)
    else Err refusals.Usage

-- the usage without arguments; the help or the version if requested; otherwise a seal
abbrev pub invocation_of : Words → Result Invocation Refusal
invocation_of [] = Ok Usage
invocation_of words = option_map_or
    (λ word. Ok (if is_text "--version" word.now then Version else Help))
    (request_in (before_end words)) (seal_of words)
