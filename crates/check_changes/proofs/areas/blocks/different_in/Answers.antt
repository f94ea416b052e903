use Rattle.std.proofs.Common.{◌≡◌, arith, rules}
use Rattle.std.specs.Prelude.{◌&&◌, not}
use Rattle.check_changes.specs.Areas.{is_difference, is_held, is_own_difference}
use Rattle.check_changes.proofs.AreaLemmas.BlockLemmas.{at_most_one, count_below-more}
use Rattle.check_changes.proofs.ImageLemmas.{both-then, OnBoth-before}
use Rattle.check_changes.proofs.areas.blocks.different_in.Goals.{then-is_different, else-is_different}
use Rattle.check_changes.proofs.areas.blocks.different_in.Goals as goal

pub loop-number-preserved : goal.loop-number-preserved
loop-number-preserved g c =
    let had = c.loop-number.invariant in
    let found = c.in_ok-is_different.is_different in
    let number = c.loop-number.number in
    let r = c.args.regions.now in
    let pairs = c.args.holders.now.pairs.now in
    let lens = c.args.holders.now.lens in
    let is = OnBoth-before (λ x y. found ≡ is_difference x y r number) had.read c.in_ok-is_different.ensures.different in
    let own : c.if-is_different.is_own ≡ (found && not (is_held lens pairs r number)) = elim c.if-is_different.branch [
      | then-is_different w ↦ search rules
      | else-is_different w ↦ search rules
    ] in
    record {
      read = both-then had.read c.in_ok-is_different.ensures.calls;
      few = omega (arith, had.few, at_most_one found c.from-blocks.result c.from-blocks.ensures);
      fewer = omega (arith, had.fewer, at_most_one c.if-is_different.is_own c.from-own.result c.from-own.ensures);
      blocks = λ h k. omega (arith, count_below-more (is_difference _ _ r) number _ found (is h k) c.from-blocks.ensures, had.blocks h k);
      own = λ h k. omega (arith, count_below-more (is_own_difference _ _ pairs r) number _ c.if-is_different.is_own (rw (is h k, c.requires.lens) at own) c.from-own.ensures, had.own h k);
    }
