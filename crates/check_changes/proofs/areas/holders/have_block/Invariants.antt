use Rattle.std.proofs.Common.{◌≡◌, drop}
use Rattle.check_changes.specs.Holders.{holders_have}
use Rattle.check_changes.proofs.areas.holders.have_block.Given as goal

abbrev pub invariant-loop-holder : goal.invariant-loop-holder
invariant-loop-holder l =
    holders_have l.outer l.number (drop l.holder-index l.holders) ≡ holders_have l.outer l.number l.holders
