-- When a refusal is explained: this project's own rule.
use Rattle.std.specs.Prelude.{ℕ, Bool, ◌||◌, List, Option, false}
use Rattle.std.specs.Option.{option_map_or}
use Rattle.std.specs.Str.{bytes_eq}
use lib.Chars.{codes}

-- on a terminal, or if the variable CBFSTOOL_EXPLAIN is `1`
abbrev pub is_explained : Bool → Option (List ℕ) → Bool
is_explained is_terminal variable =
    is_terminal || option_map_or (λ value. bytes_eq value (codes "1")) variable false
