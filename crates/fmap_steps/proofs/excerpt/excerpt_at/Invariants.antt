use Rattle.std.proofs.Common.{◌≡◌, ◌≤◌, length, map, take}
use Rattle.fmap_steps.specs.Explanations.{visible}
use Rattle.fmap_steps.proofs.excerpt.excerpt_at.Given as goal

abbrev pub invariant-loop-byte : goal.invariant-loop-byte
invariant-loop-byte l = (l.bytes.items ≡ map visible (take l.byte-index l.byte-items)) × (l.byte-index ≤ length l.byte-items)
    × (length l.bytes.items ≡ l.byte-index)
