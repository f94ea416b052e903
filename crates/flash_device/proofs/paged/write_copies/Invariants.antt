use Rattle.std.specs.Prelude.{◌≡◌, ◌+◌, ◌<◌, ◌≤◌, ◌-◌, ◌/◌, ◌%◌, IsTrue, replicate, take}
use Rattle.flash_device.specs.Device.{overwritten, Calls}
use Rattle.flash_device.proofs.paged.write_copies.Given as goal

abbrev pub invariant-loop-done : goal.invariant-loop-done
invariant-loop-done g l =
    let old = g.F.Flash.facts l.initial.device in
    let new = g.F.Flash.facts l.device in
    record {
      within : l.done ≤ l.n;
      whole : l.done < l.n → l.done % 4096 ≡ 0;
      calls : Calls ((l.done + 4095) / 4096) 0 old new;
      filled : IsTrue old.honest → new.content ≡ overwritten old.content l.at (take l.done (replicate l.n l.byte));
    }

abbrev pub decreases-loop-done : goal.decreases-loop-done
decreases-loop-done g l = l.n - l.done
