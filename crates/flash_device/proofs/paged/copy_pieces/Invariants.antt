use Rattle.std.specs.Prelude.{◌≡◌, ◌+◌, ◌<◌, ◌≤◌, ◌-◌, ◌/◌, ◌%◌, ◌++◌, ℕ, List, IsTrue, take}
use Rattle.flash_device.specs.Device.{overwritten, SameOutside, Calls, Reads}
use Rattle.flash_device.proofs.paged.copy_pieces.Given as goal

abbrev pub invariant-loop-done : goal.invariant-loop-done
invariant-loop-done g l =
    let old = g.F.Flash.facts l.initial.device in
    let new = g.F.Flash.facts l.device in
    let input = g.S.Source.facts l.initial.source in
    record {
      within : l.done ≤ l.n;
      whole : l.done < l.n → l.done % 4096 ≡ 0;
      calls : Calls ((l.done + 4095) / 4096) 0 old new;
      source : Reads ((l.done + 4095) / 4096) 0 input (g.S.Source.facts l.source);
      copied : IsTrue old.honest → IsTrue input.honest → new.content ≡ overwritten old.content l.at (take l.done input.content);
      outside : IsTrue old.honest → SameOutside l.at l.n old.content new.content;
      shown : IsTrue input.honest → (seen : List ℕ) → g.W.Watch.saw l.initial.watch seen → g.W.Watch.saw l.watch (seen ++ take l.done input.content);
    }

abbrev pub decreases-loop-done : goal.decreases-loop-done
decreases-loop-done g l = l.n - l.done
