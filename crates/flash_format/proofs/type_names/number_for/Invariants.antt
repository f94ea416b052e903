use Rattle.std.proofs.Common.{◌≡◌, drop, map}
use Rattle.flash_format.specs.TypeNames.{number_for}
use Rattle.flash_format.proofs.type_names.number_for.Given as goal

abbrev pub invariant-loop-kind : goal.invariant-loop-kind
invariant-loop-kind l =
    number_for (map (λ row. (row.0, row.1.now)) l.rows) l.text ≡ number_for (map (λ row. (row.0, row.1.now)) (drop l.kind-index l.rows)) l.text
