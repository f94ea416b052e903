use Rattle.std.proofs.Common.{◌≡◌, ◌++◌, ◌/◌, take, drop}
use Rattle.std.specs.List.{flat_map}
use Rattle.check_changes.specs.Components.{new_changes}
use Rattle.check_changes.specs.Components.{spans}
use Rattle.check_changes.specs.Regions.{listed_regions}
use Rattle.check_changes.specs.Images.{OnBothIn}
use Rattle.check_changes.proofs.ImageLemmas.{HasReadBoth}
use Rattle.check_changes.proofs.components.region_comparison.push_changes.Given as goal

abbrev pub invariant-loop-listed : goal.invariant-loop-listed
invariant-loop-listed g l =
    let old = l.lists.old.all.now in
    let new = l.lists.new.all.now in
    let n = spans (take l.listed-index new) / 24 in
    record {
      read : HasReadBoth n n 0 0 l.initial.images l.images;
      changes : OnBothIn l.initial.images (listed_regions l.lists) (λ x y.
          l.changes.items ++ flat_map (new_changes x y old new) (drop l.listed-index new)
          ≡ l.initial.changes.items ++ flat_map (new_changes x y old new) new);
    }
