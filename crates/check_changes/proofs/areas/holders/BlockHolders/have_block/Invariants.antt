use Rattle.std.proofs.Common.{◌≡◌, drop}
use Rattle.std.specs.List.{list_any}
use Rattle.check_changes.specs.Holders.{holders_have}
use Rattle.check_changes.proofs.areas.holders.BlockHolders.have_block.Given as goal

abbrev pub invariant-loop-group : goal.invariant-loop-group
invariant-loop-group l =
    let has = list_any (λ group. holders_have l.outer l.number group.holders.items) in
    has (drop l.group-index l.self.groups.items) ≡ has l.self.groups.items
