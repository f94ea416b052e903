use Rattle.std.proofs.Common.{◌≡◌, ◌++◌, drop}
use Rattle.std.specs.List.{flat_map}
use Rattle.check_changes.specs.Components.{removal_of}
use Rattle.check_changes.proofs.components.region_comparison.push_removed.Given as goal

abbrev pub invariant-loop-listed : goal.invariant-loop-listed
invariant-loop-listed l =
    let old = l.lists.old.all.now in
    let removal = removal_of old l.lists.new.all.now in
    l.changes.items ++ flat_map removal (drop l.listed-index old) ≡ l.initial.changes.items ++ flat_map removal old
