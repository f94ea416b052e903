-- Buffered output.
use Rattle.std.specs.Prelude.{◌≡◌, ℕ, List, [], ◌∷◌, ◌++◌, Option}
use Rattle.std.specs.Global.{Vec}
use Rattle.std.specs.Io.KnownBytes.{Appends, append_known}

-- A buffered sink: the bytes that the sink has received, if known, the remaining bytes in the
-- buffer, and the number of faults of the sink.
pub record Buffered : Type 0 where
  pub received : Option (List ℕ)
  pub held : List ℕ
  pub faults : ℕ

-- the bytes of every call of `put`, if known
abbrev pub put_bytes : Buffered → Option (List ℕ)
put_bytes output = append_known output.received output.held

-- the sink receives the first of the buffered bytes, and the others remain in the buffer
abbrev pub Sends : Option (List ℕ) → Option (List ℕ) → List ℕ → List ℕ → Type 0
Sends received new_received held new_held =
    (sent : List ℕ) × Appends received new_received sent × (held ≡ sent ++ new_held)

-- the bytes of all blocks, in order
abbrev pub joined : List (Vec ℕ) → List ℕ
joined [] = []
joined (block ∷ blocks) = block.items ++ joined blocks
