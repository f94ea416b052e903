use Rattle.std.proofs.Common.{length, ◌-◌, ◌≡◌, ◌≤◌, take, IsTrue}
use Rattle.flash_device.specs.Device.{overwritten}
use Rattle.flash_store.specs.Files.{SameFile}
use Rattle.flash_store.proofs.transfer.write_whole.Given as goal

abbrev pub invariant-loop-done : goal.invariant-loop-done
invariant-loop-done g l =
    let old = g.S.Storage.facts l.initial.storage in
    let new = g.S.Storage.facts l.storage in
    record {
      within : l.done ≤ length l.bytes;
      after : SameFile old new;
      written : IsTrue old.faithful → new.content ≡ overwritten old.content l.at (take l.done l.bytes);
    }

abbrev pub decreases-loop-done : goal.decreases-loop-done
decreases-loop-done g l = length l.bytes - l.done
