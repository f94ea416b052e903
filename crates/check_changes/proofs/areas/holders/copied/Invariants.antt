use Rattle.std.proofs.Common.{◌≡◌, take}
use Rattle.check_changes.proofs.areas.holders.copied.Given as goal

abbrev pub invariant-loop-holder : goal.invariant-loop-holder
invariant-loop-holder l = l.holders.items ≡ take l.holder-index l.some
