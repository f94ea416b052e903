use Rattle.std.proofs.Common.{[], arith}
use Rattle.flash_store.proofs.BufferingLemmas.{Sends-block}
use Rattle.flash_store.proofs.output.send_blocks.Goals as goal

pub returns-then-not-send_block-clause-sent : goal.returns-then-not-send_block-clause-sent
returns-then-not-send_block-clause-sent g c =
    Sends-block _ _ _ _ _ _ c.pop_front.new.self.items c.in-Some.block c.loop-block.invariant.sent c.in-Some.ensures.items c.send_block.ensures.sent

pub loop-block-preserved : goal.loop-block-preserved
loop-block-preserved g c =
    let empty = c.send_block.ensures.whole.0 c.if-not-send_block.false in
    record {
      sent = Sends-block _ _ _ _ [] _ c.pop_front.new.self.items c.in-Some.block c.loop-block.invariant.sent c.in-Some.ensures.items (rw empty at c.send_block.ensures.sent);
      empty = c.loop-block.invariant.empty;
      faults = omega (arith, c.loop-block.invariant.faults, c.send_block.ensures.faults);
    }
