use Rattle.std.specs.Prelude.{◌≤◌, ◌-◌, length, take}
use Rattle.std.specs.Io.KnownBytes.{Appends}
use Rattle.flash_device.proofs.sink.put_all.Given as goal

abbrev pub invariant-loop-done : goal.invariant-loop-done
invariant-loop-done g l = (l.done ≤ length l.bytes)
    × Appends (g.W.Sink.contents l.initial.out) (g.W.Sink.contents l.out) (take l.done l.bytes)
    × (g.W.Sink.faults l.initial.out ≤ g.W.Sink.faults l.out)

abbrev pub decreases-loop-done : goal.decreases-loop-done
decreases-loop-done g l = length l.bytes - l.done
