-- The lines of a component's attributes.
use Rattle.std.proofs.Common.{arith}
use Rattle.std.proofs.lemmas.Grind.{common_steps}
use Rattle.std.proofs.Common.{◌≡◌, List, [], ◌∷◌, drop, map, Option, Some, None, ap}
use Rattle.std.specs.Prelude.{slice_get}
use Rattle.std.specs.List.{flat_map}
use Rattle.std.specs.Option.{option_map}
use Rattle.flash_format.specs.declared.attribute.AttrHead.{AttrHead}
use Rattle.flash_format.specs.Entry.{Attribute}
use Rattle.cbfs_walk.specs.AttrWalks.{head_of_attribute}
use Rattle.cbfs_commands.specs.Rows.{attribute_line}
use Rattle.cbfs_commands.proofs.OutputParts.{text_then}
use Rattle.cbfs_commands.specs.Outcomes.{Printout, shows}

abbrev pub lines : List Attribute → Printout
lines all = shows (flat_map attribute_line (map head_of_attribute all))

-- the remaining lines, or none if malformed
abbrev pub lines_left : Option (List Attribute) → Printout
lines_left None = shows []
lines_left (Some all) = lines all

-- the first line, then the others
pub lines-first : (o p : Option (List Attribute)) (all : List Attribute) (head : AttrHead) → o ≡ Some all → Some head ≡ option_map head_of_attribute (slice_get all 0) → p ≡ Some (drop 1 all)
    → lines_left o ≡ text_then (attribute_line head) (lines_left p)
lines-first o p all head left is next = grind (arith, common_steps)

pub lines-none : (o : Option (List Attribute)) (all : List Attribute) → o ≡ Some all → None ≡ option_map head_of_attribute (slice_get all 0) → lines_left o ≡ shows []
lines-none o [] left is = ap lines_left left
lines-none o (a ∷ others) left is = absurd cc
