use Rattle.std.proofs.Common.{◌≡◌, ◌+◌, ◌-◌, ◌*◌, ◌/◌, ◌≤◌, ◌++◌, length, drop}
use Rattle.check_changes.specs.Areas.{area_changes_in}
use Rattle.check_changes.specs.Images.{OnBoth, lengths}
use Rattle.check_changes.proofs.ImageLemmas.{HasReadBoth}
use Rattle.check_changes.proofs.areas.areas.push_changes.Given as goal

abbrev pub invariant-loop-pair : goal.invariant-loop-pair
invariant-loop-pair g l =
    let most = 8 * (lengths l.initial.images).new in
    let n = (most - l.left) / 4096 + l.pair-index in
    record {
      within : l.left ≤ most;
      lens : l.holders.lens ≡ lengths l.images;
      read : HasReadBoth n n 0 0 l.initial.images l.images;
      changes : OnBoth l.initial.images (λ x y. l.changes.items ++ area_changes_in x y l.holders.pairs.now l.left (drop l.pair-index l.holders.pairs.now)
          ≡ l.initial.changes.items ++ area_changes_in x y l.holders.pairs.now (8 * length y) l.holders.pairs.now);
    }
