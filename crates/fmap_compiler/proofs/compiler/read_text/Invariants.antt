use Rattle.std.proofs.Common.{◌≡◌, ◌+◌, ◌≤◌, ◌-◌, length}
use Rattle.std.specs.Io.KnownBytes.{Consumes}
use Rattle.fmap_compiler.specs.Outcome.{reading_limit}
use Rattle.fmap_compiler.proofs.compiler.read_text.Given as goal

abbrev pub invariant-loop-buffer : goal.invariant-loop-buffer
invariant-loop-buffer g l = record {
  consumed : Consumes (g.R.TextReader.remaining l.initial.reader) (g.R.TextReader.remaining l.reader) l.text.items;
  given : g.R.TextReader.given l.reader ≡ g.R.TextReader.given l.initial.reader + length l.text.items;
  within : length l.text.items ≤ reading_limit;
  faults : g.R.TextReader.faults l.initial.reader ≤ g.R.TextReader.faults l.reader;
  room : length l.buffer ≡ 4096;
}

abbrev pub decreases-loop-buffer : goal.decreases-loop-buffer
decreases-loop-buffer g l = reading_limit - length l.text.items
