-- The commands with their arguments, as the synopsis of the manual page lists them.
use Rattle.std.specs.Prelude.{ℕ, Bool, List, [], ◌∷◌, ◌++◌, Option, is_some, option_map, find, unwrap_or}
use Rattle.std.specs.Str.{bytes_eq}
use lib.Chars.{codes}

-- a command, and the arguments after IMAGE
abbrev pub synopses : List (List ℕ × List ℕ)
synopses = (codes "print", codes "print [-r REGION] [-v]")
    ∷ (codes "layout", codes "layout")
    ∷ (codes "extract", codes "extract [-r REGION] -n NAME -f FILE")
    ∷ (
      codes "add",
      codes "add [-r REGION] -n NAME -f FILE -t TYPE [-a ALIGNMENT | -b OFFSET] [-A HASH]",
    )
    ∷ (codes "remove", codes "remove [-r REGION] -n NAME")
    ∷ (codes "read", codes "read [-r REGION] -f FILE")
    ∷ (codes "write", codes "write [-r REGION] -f FILE")
    ∷ (codes "create", codes "create -M FLASHMAP [-r REGION[,REGION ...]]") ∷ []

abbrev pub synopsis_among : List (List ℕ × List ℕ) → List ℕ → Option (List ℕ)
synopsis_among rows command = option_map (λ row. row.1) (find (λ row. bytes_eq command row.0) rows)

unfoldable pub synopsis_of : List ℕ → Option (List ℕ)
synopsis_of command = synopsis_among synopses command

abbrev pub is_command : List ℕ → Bool
is_command word = is_some (synopsis_of word)

-- the usage without a known command
abbrev pub all_commands : List ℕ
all_commands =
    codes "COMMAND [OPTIONS]\ncommands: print layout extract add remove read write create"

-- the usage of a command, or of all commands
abbrev pub usage_of : List ℕ → List ℕ
usage_of word = codes "usage: cbfstool IMAGE " ++ unwrap_or (synopsis_of word) all_commands
    ++ codes "\n"
