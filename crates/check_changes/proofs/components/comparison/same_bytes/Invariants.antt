use Rattle.check_changes.specs.Images.{OnBothIn}
use Rattle.check_changes.proofs.ImageLemmas.{HasReadBoth}
use Rattle.check_changes.proofs.ComponentLemmas.Reads.{AreSame}
use Rattle.check_changes.proofs.components.comparison.same_bytes.Given as goal

abbrev pub invariant-loop-number : goal.invariant-loop-number
invariant-loop-number g l =
    record {
      read : HasReadBoth l.number l.number 0 0 l.initial.images l.images;
      same : OnBothIn l.initial.images l.regions (AreSame l.number);
    }
