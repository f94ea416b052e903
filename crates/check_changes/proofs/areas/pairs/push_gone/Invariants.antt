use Rattle.std.proofs.Common.{◌≡◌, ◌++◌, drop}
use Rattle.std.specs.List.{flat_map}
use Rattle.check_changes.specs.Areas.{gone_of}
use Rattle.check_changes.proofs.areas.pairs.push_gone.Given as goal

abbrev pub invariant-loop-area : goal.invariant-loop-area
invariant-loop-area l =
    let gone = gone_of l.areas.old.all.now l.areas.new.all.now in
    l.changes.items ++ flat_map gone (drop l.area-index l.areas.old.all.now) ≡ l.initial.changes.items ++ flat_map gone l.areas.old.all.now
