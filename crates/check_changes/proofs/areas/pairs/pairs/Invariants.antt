use Rattle.std.proofs.Common.{◌≡◌, ◌≤◌, ◌++◌, length, drop}
use Rattle.std.specs.List.{flat_map}
use Rattle.check_findings.specs.Lists.{only_if}
use Rattle.check_changes.specs.Areas.{is_first_of_name, pair_of, pairs}
use Rattle.check_changes.proofs.areas.pairs.pairs.Given as goal

abbrev pub invariant-loop-area : goal.invariant-loop-area
invariant-loop-area l = record {
  count : length l.pairs.items ≤ l.area-index;
  found : l.pairs.items ++ flat_map (λ a. only_if (is_first_of_name l.areas.new.all.now a) (pair_of l.areas.old.all.now a)) (drop l.area-index l.areas.new.all.now) ≡ pairs l.areas.old.all.now l.areas.new.all.now;
}
