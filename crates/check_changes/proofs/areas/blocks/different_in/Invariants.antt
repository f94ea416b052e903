use Rattle.std.proofs.Common.{◌≡◌, ◌≤◌}
use Rattle.check_changes.specs.Areas.{is_difference, is_own_difference}
use Rattle.check_changes.specs.Areas.{count_below}
use Rattle.check_changes.specs.Images.{OnBoth}
use Rattle.check_changes.proofs.ImageLemmas.{HasReadBoth}
use Rattle.check_changes.proofs.areas.blocks.different_in.Given as goal

abbrev pub invariant-loop-number : goal.invariant-loop-number
invariant-loop-number g l =
    record {
      read : HasReadBoth l.number l.number 0 0 l.initial.images l.images;
      few : l.blocks ≤ l.number;
      fewer : l.own ≤ l.number;
      blocks : OnBoth l.initial.images (λ x y. l.blocks ≡ count_below (is_difference x y l.regions) l.number);
      own : OnBoth l.initial.images (λ x y. l.own ≡ count_below (is_own_difference x y l.holders.pairs.now l.regions) l.number);
    }
