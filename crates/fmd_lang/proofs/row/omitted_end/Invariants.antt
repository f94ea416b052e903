use Rattle.std.proofs.Common.{ℕ, ◌≡◌, ◌-◌, ◌^◌, drop, min}
use Rattle.fmd_lang.specs.Layout.{omitted_end}
use Rattle.fmd_lang.proofs.row.omitted_end.Given as goal

abbrev pub invariant-loop-sibling : goal.invariant-loop-sibling
invariant-loop-sibling l = (total : ℕ) × (l.sizes ≡ min (2 ^ 32 - 1) total)
    × (omitted_end l.parent l.ahead ≡ omitted_end l.parent (drop l.sibling-index l.ahead) - total)
