use Rattle.std.proofs.Common.{◌≡◌, drop, map, nat_eq}
use Rattle.std.specs.Map.{lookup}
use Rattle.flash_format.proofs.type_names.name_in.Given as goal

abbrev pub invariant-loop-known : goal.invariant-loop-known
invariant-loop-known l =
    lookup (nat_eq l.number) (map (λ row. (row.0, row.1.now)) l.rows)
    ≡ lookup (nat_eq l.number) (map (λ row. (row.0, row.1.now)) (drop l.known-index l.rows))
