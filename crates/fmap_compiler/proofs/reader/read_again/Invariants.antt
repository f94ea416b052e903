use Rattle.std.proofs.Common.{◌≡◌, length}
use Rattle.std.specs.Io.KnownBytes.{Keeps}
use Rattle.fmap_compiler.proofs.reader.read_again.Given as goal

abbrev pub invariant-loop : goal.invariant-loop
invariant-loop g l =
    (length l.room ≡ length l.initial.room)
    × Keeps (g.R.Read.remaining l.initial.reader) (g.R.Read.remaining l.reader)
