-- The known command or option near a wrong argument: this project's own rule.
use Rattle.std.specs.Prelude.{ℕ, Bool, List, [], ◌∷◌, ◌++◌, ◌&&◌, ◌==◌, Option, find, filter_map, option_map}
use Rattle.std.specs.List.{before_first, list_any}
use Rattle.std.specs.Option.{option_map_or}
use Rattle.std.specs.Str.{bytes_eq}
use lib.Chars.{codes}
use Rattle.clap.specs.Words.{Rule, Shape}
use Rattle.cbfs_line.specs.Subcommands.{subcommands}
use Rattle.cbfs_mistakes.specs.Near.{is_near}
use Rattle.cbfs_mistakes.specs.Synopses.{synopses}
use Rattle.cbfs_mistakes.specs.declared.mistake.Mistake.{Mistake}
use Rattle.cbfs_mistakes.specs.declared.mistake.Mistake.TheVariants as mistakes
use Rattle.cbfs_mistakes.specs.declared.mistake.WordFault.TheVariants as faults

-- the command of the first row with a command near the argument
abbrev pub near_among : List (List ℕ × List ℕ) → List ℕ → Option (List ℕ)
near_among rows word = option_map (λ row. row.0) (find (λ row. is_near word row.0) rows)

-- the first command near the argument
unfoldable pub near_command : List ℕ → Option (List ℕ)
near_command word = near_among synopses word

-- long option names of other tools, and the letters of cbfstool's options
abbrev pub long_names : List (List ℕ × ℕ)
long_names = (codes "--region", 114) ∷ (codes "--fmap-regions", 114) ∷ (codes "--name", 110)
    ∷ (codes "--file", 102) ∷ (codes "--type", 116) ∷ (codes "--alignment", 97)
    ∷ (codes "--base", 98) ∷ (codes "--base-address", 98) ∷ (codes "--hash", 65)
    ∷ (codes "--hash-algorithm", 65) ∷ (codes "--flashmap", 77) ∷ (codes "--verbose", 118) ∷ []

-- the letters of a command's options
abbrev pub letters_of : List ℕ → List ℕ
letters_of command = option_map_or
    (λ (shape : Shape). filter_map (λ (rule : Rule). rule.short) shape.rules)
    (find (λ (shape : Shape). bytes_eq command shape.name) subcommands) []

-- the option of the row is among the letters, and the long name of the row is near `name`
abbrev pub is_meant : List ℕ → List ℕ → List ℕ × ℕ → Bool
is_meant letters name row = list_any (λ letter. letter == row.1) letters && is_near name row.0

-- the option of the first row that fits
abbrev pub option_among : List (List ℕ × ℕ) → List ℕ → List ℕ → Option ℕ
option_among rows letters name = option_map (λ row. row.1) (find (is_meant letters name) rows)

-- the first option of the command with a long name near the argument, without a value after `=`
unfoldable pub near_option : List ℕ → List ℕ → Option ℕ
near_option command word =
    option_among long_names (letters_of command) (before_first (λ b. b == 61) word)

-- the line between a mistake and the usage of a command, if the wrong argument is near a known
-- command or option
abbrev pub suggestion : List ℕ → Mistake → List ℕ
suggestion command (mistakes.Word faults.UnknownCommand word) = option_map_or
    (λ known. codes "cbfstool: did you mean '" ++ known ++ codes "'?\n") (near_command word.now) []
suggestion command (mistakes.Word faults.UnknownOption word) = option_map_or
    (λ letter. codes "cbfstool: did you mean '-" ++ (letter ∷ codes "'?\n"))
    (near_option command word.now) []
suggestion command m = []
