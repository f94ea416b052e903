-- The fixed bytes by which a structure is known.
use Rattle.std.specs.Prelude.{ℕ, Bool, List, drop, nat_eq}
use Rattle.std.specs.List.{starts_with}

-- these bytes are at an offset
abbrev pub has_magic_at : ℕ → List ℕ → List ℕ → Bool
has_magic_at at magic x = starts_with nat_eq (drop at x) magic
