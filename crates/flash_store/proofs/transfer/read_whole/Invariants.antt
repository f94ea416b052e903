use Rattle.std.proofs.Common.{length, ◌-◌, ◌≡◌, ◌≤◌, take, drop, IsTrue}
use Rattle.flash_store.specs.Files.{SameBytes}
use Rattle.flash_store.proofs.transfer.read_whole.Given as goal

abbrev pub invariant-loop-done : goal.invariant-loop-done
invariant-loop-done g l =
    let old = g.S.Storage.facts l.initial.storage in
    record {
      within : l.done ≤ length l.out;
      after : SameBytes old (g.S.Storage.facts l.storage);
      read : IsTrue old.faithful → take l.done l.out ≡ take l.done (drop l.at old.content);
    }

abbrev pub decreases-loop-done : goal.decreases-loop-done
decreases-loop-done g l = length l.initial.out - l.done
