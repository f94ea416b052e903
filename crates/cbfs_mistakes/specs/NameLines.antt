-- A line of names: this project's own text.
use Rattle.std.specs.Prelude.{ℕ, ◌-◌, List, [], ◌∷◌, ◌++◌, ◌==◌, length, take, if◌then◌else◌}
use Rattle.std.specs.List.{flat_map}
use Rattle.std.specs.Fmt.{decimal}
use lib.Chars.{codes}
use Rattle.flash_format.specs.Texts.{printed_name}

-- the maximum number of names in a line
abbrev pub most_listed : ℕ
most_listed = 16

-- with a comma and a blank between two, as a listing prints them
abbrev pub joined : List (List ℕ) → List ℕ
joined [] = []
joined (first ∷ others) =
    printed_name first ++ flat_map (λ name. codes ", " ++ printed_name name) others

-- the number of the remaining names, if any
abbrev pub others_text : ℕ → List ℕ
others_text count = if count == 0 then [] else codes " and " ++ decimal count ++ codes " more"

-- the first names after a text, and the number of the others; no line without a name
abbrev pub names_line : List ℕ → List (List ℕ) → List ℕ
names_line before names = if length names == 0 then []
    else before ++ joined (take most_listed names)
    ++ others_text (length names - most_listed) ++ codes "\n"
