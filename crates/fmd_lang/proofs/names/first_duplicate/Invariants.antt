use Rattle.std.proofs.Common.{◌≡◌, ℕ, List, [], take, drop, map}
use Rattle.std.specs.List.{list_any}
use Rattle.std.specs.Str.{bytes_eq}
use Rattle.fmd_lang.specs.Table.{duplicate}
use Rattle.fmd_lang.proofs.NameLemmas.{has}
use Rattle.fmd_lang.proofs.names.first_duplicate.Given as goal

abbrev pub invariant-loop-number : goal.invariant-loop-number
invariant-loop-number l = ((q : List ℕ) → has q l.seen.keys ≡ list_any (bytes_eq q) (map (λ r. r.now) (take l.number l.names)))
    × (duplicate 0 [] (map (λ r. r.now) l.names)
    ≡ duplicate l.number (map (λ r. r.now) (take l.number l.names)) (map (λ r. r.now) (drop l.number l.names)))
