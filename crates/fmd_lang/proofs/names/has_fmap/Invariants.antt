use Rattle.std.proofs.Common.{◌≡◌, codes, drop, map}
use Rattle.std.specs.List.{list_any}
use Rattle.std.specs.Str.{bytes_eq}
use Rattle.fmd_lang.proofs.names.has_fmap.Given as goal

abbrev pub invariant-loop-name : goal.invariant-loop-name
invariant-loop-name l =
    list_any (bytes_eq (codes "FMAP")) (map (λ r. r.now) l.names) ≡ list_any (bytes_eq (codes "FMAP")) (map (λ r. r.now) (drop l.name-index l.names))
