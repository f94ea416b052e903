-- The search for a component by name.
use Rattle.std.specs.Prelude.{◌≡◌, ℕ, true, false, All, List, ◌∷◌, ◌++◌, Option, Some, None, Result, Ok, Err}
use Rattle.std.specs.List.{find}
use Rattle.std.specs.Option.{option_map_or}
use Rattle.std.specs.Str.{bytes_eq}
use Rattle.flash_format.specs.Cut.{End, damage, cut}
use Rattle.flash_format.specs.Components.{Component, components}
use Rattle.cbfs_walk.specs.Shapes.{shape_fault}
use Rattle.cbfs_walk.specs.CellReadings.{place_after}
use Rattle.cbfs_walk.specs.declared.walk.WalkFault.{WalkFault}
use Rattle.cbfs_walk.specs.declared.walk.WalkFault.TheVariants as faults

abbrev pub first_named : List ℕ → List Component → Option Component
first_named name all = find (λ c. bytes_eq c.name name) all

pub record IsFirstOf (name : List ℕ) (all : List Component) (c : Component) : Type 0 where
  pub before : List Component
  pub after : List Component
  pub whole : all ≡ before ++ (c ∷ after)
  pub named : bytes_eq c.name name ≡ true
  pub none_before : All (λ (d : Component). bytes_eq d.name name ≡ false) before

-- the damage at the end of the cells, or nothing
abbrev pub not_found : ℕ → End → Result (Option Component) WalkFault
not_found at (damage kind) = Err (faults.Damaged at kind)
not_found at _ = Ok None

-- the first component with the name, or the end of the cells
unfoldable pub component_in : List ℕ → List ℕ → Result (Option Component) WalkFault
component_in x name = option_map_or (λ fault. Err fault) (shape_fault x) (option_map_or
    (λ c. Ok (Some c)) (first_named name (components x))
    (not_found (place_after 0 (cut x).cells) (cut x).end))
