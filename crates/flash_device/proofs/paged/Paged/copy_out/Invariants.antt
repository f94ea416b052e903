use Rattle.std.specs.Prelude.{List, ℕ, ◌≡◌, ◌+◌, ◌≤◌, ◌<◌, ◌-◌, ◌/◌, ◌%◌, IsTrue, slice_range}
use Rattle.std.specs.Io.KnownBytes.{Appends}
use Rattle.flash_device.specs.Pages.{Covers, HasRead, Piece}
use Rattle.flash_device.proofs.paged.Paged.copy_out.Given as goal

abbrev pub invariant-loop-done : goal.invariant-loop-done
invariant-loop-done g l =
    let old = l.fn.self.device in
    record {
      within : l.done ≤ l.n;
      whole_pieces : l.done < l.n → l.done % 4096 ≡ 0;
      no_piece : (bytes : List ℕ) → l.self.held ≡ Piece bytes → ⊥;
      read : HasRead ((l.done + 4095) / 4096) 0 l.fn.self l.self;
      free : Covers l.fn.self.held l.at l.n → l.self ≡ l.fn.self;
      faults : g.W.Sink.faults l.fn.out ≤ g.W.Sink.faults l.out;
      put : IsTrue old.honest → Appends (g.W.Sink.contents l.fn.out) (g.W.Sink.contents l.out) (slice_range old.content l.at (l.at + l.done));
    }

abbrev pub decreases-loop-done : goal.decreases-loop-done
decreases-loop-done g l = l.n - l.done
