use Rattle.std.proofs.Common.{arith, length, ap, ◌∙◌, max, [], ◌∷◌}
use Rattle.std.proofs.Common.{length-append}
use Rattle.check_changes.proofs.HolderLemmas.{reached_more}
use Rattle.check_changes.proofs.areas.holders.reaches_of.Goals as goal

pub loop-holder-preserved : goal.loop-holder-preserved
loop-holder-preserved c =
    let had = c.loop-holder.invariant in
    let more = reached_more c.args.holders.now c.loop-holder.reaches.items c.push.new.list.items c.loop-holder.holder-index c.loop-holder.reach c.max-reach.result _ c.loop-holder-test.true had.all c.in_ok-push.ensures (c.max-reach.ensures ∙ ap (λ n. max n c.loop-holder.reach) c.end.ensures) had.reached had.reach in
    record {
      all = omega (arith, had.all, ap length c.in_ok-push.ensures, length-append c.loop-holder.reaches.items (c.max-reach.result ∷ []));
      reached = more.0;
      reach = more.1;
    }

pub returns : goal.returns
returns c =
    let had = c.loop-holder.invariant in
    (omega (arith, had.all, c.loop-holder-test.false, c.loop-holder.auto.holder-index-end), λ i k d le lt. had.reached i k d le (omega (arith, lt, c.loop-holder-test.false)))
