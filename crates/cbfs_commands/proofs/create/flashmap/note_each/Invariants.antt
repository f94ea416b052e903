use Rattle.std.proofs.Common.{◌≡◌, ◌++◌, ◌∷◌, [], List, Option, map}
use Rattle.flash_format.specs.declared.flashmap.Area.{Area}
use Rattle.flash_map.specs.Fmap.{first_area}
use Rattle.cbfs_commands.proofs.PlanSteps.{partly}
use Rattle.cbfs_commands.proofs.create.flashmap.note_each.Given as goal

abbrev pub invariant-loop-i : goal.invariant-loop-i
invariant-loop-i l = (seen : List Area) (rest : List (Option Area)) → l.initial.found ≡ map (first_area seen) (map (λ n. n.now) l.names) ++ rest
    → l.found ≡ partly (first_area (seen ++ l.area ∷ [])) (first_area seen) (map (λ n. n.now) l.names) rest l.i
