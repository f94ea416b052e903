-- Option files: the arguments in a text, and the arguments that stand for an argument `@PATH`.
use Rattle.std.specs.Prelude.{ℕ, Bool, List, [], ◌∷◌, length, map, take, drop, ◌++◌, ◌==◌, ◌||◌, Option}
use Rattle.std.specs.Prelude.{Some, None, option_map, if◌then◌else◌, find, filter_map, slice_get}
use Rattle.std.specs.Prelude.{nat_eq}
use Rattle.std.specs.List.{flat_map, position, slice_split, starts_with}
use Rattle.std.specs.Option.{option_map_or}
use Rattle.std.specs.Str.{trim, trim_start}
use Rattle.std.specs.String.{string_bytes}
use lib.Chars.{codes}
use Rattle.check_line.specs.CheckWords.{Complaint, nested}
use Rattle.check_line.specs.declared.option_files.Argument.{Argument}
use Rattle.check_line.specs.declared.option_files.Argument.TheVariants.{Word, File}

-- ---- the lines of a text

-- the parts between line feeds (10), without white space at their start and end
abbrev pub lines_of : List ℕ → List (List ℕ)
lines_of text = map trim (slice_split (λ b. b == 10) text)

abbrev pub is_comment : List ℕ → Bool
is_comment line = starts_with nat_eq line (codes "#")

-- the argument of an option file, or a line that names one
abbrev pub names_file : List ℕ → Bool
names_file word = starts_with nat_eq word (codes "@")

-- ---- the arguments in a line

-- a space or a tab
abbrev pub is_blank : ℕ → Bool
is_blank b = b == 32 || b == 9

-- an option alone, or an option and its value after blanks
abbrev pub option_words : List ℕ → List (List ℕ)
option_words line = option_map_or (λ n. take n line ∷ trim_start (drop n line) ∷ [])
    (position is_blank line) (line ∷ [])

abbrev pub words_in_line : List ℕ → List (List ℕ)
words_in_line line = if length line == 0 || is_comment line then [] else option_words line

-- ---- the arguments of a command line

abbrev pub words_in : List ℕ → List (List ℕ)
words_in text = flat_map words_in_line (lines_of text)

-- the path of an argument `@PATH`
abbrev pub path_of : List ℕ → Option (List ℕ)
path_of word = if names_file word then Some (drop 1 word) else None

-- an argument as it is given
abbrev pub written : Argument → List ℕ
written (Word word) = word.now
written (File path text) = codes "@" ++ path.now

abbrev pub file_of : Argument → Option (List ℕ)
file_of (Word word) = None
file_of (File path text) = Some path.now

-- an argument itself, or the arguments in its file
abbrev pub words_for : Argument → List (List ℕ)
words_for (Word word) = word.now ∷ []
words_for (File path text) = words_in (string_bytes text)

-- the first line that names an option file
abbrev pub nested_line : List ℕ → Option (List ℕ)
nested_line text = find names_file (lines_of text)

abbrev pub nested_in : Argument → Option Complaint
nested_in (Word word) = None
nested_in (File path text) = option_map (nested path.now) (nested_line (string_bytes text))

-- in the first option file with such a line
abbrev pub first_nested : List Argument → Option Complaint
first_nested arguments = slice_get (filter_map nested_in arguments) 0
