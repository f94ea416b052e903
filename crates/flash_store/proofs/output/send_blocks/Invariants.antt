use Rattle.std.proofs.Common.{◌≡◌, ◌≤◌, []}
use Rattle.std.specs.VecDeque.{deque_len}
use Rattle.flash_store.specs.Buffering.{Sends, joined}
use Rattle.flash_store.proofs.output.send_blocks.Given as goal

abbrev pub invariant-loop-block : goal.invariant-loop-block
invariant-loop-block g l = record {
  sent : Sends (g.S.Sink.contents l.initial.sink) (g.S.Sink.contents l.sink) (joined l.initial.blocks.items) (joined l.blocks.items);
  empty : l.rest.items ≡ [];
  faults : g.S.Sink.faults l.initial.sink ≤ g.S.Sink.faults l.sink;
}

abbrev pub decreases-loop-block : goal.decreases-loop-block
decreases-loop-block g l = deque_len l.blocks
