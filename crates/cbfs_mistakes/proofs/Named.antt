-- Mistakes that name causes.
use Rattle.std.proofs.Common.{Option, Some, None}
use Rattle.std.specs.Option.{option_or}
use Rattle.cbfs_mistakes.specs.Lines.{Cause}
use Rattle.cbfs_mistakes.specs.Mistakes.{Names}
use Rattle.cbfs_mistakes.specs.declared.mistake.Mistake.{Mistake}

-- the first of two mistakes names the first of two causes
pub or_names : (c d : Option Cause) (m n : Option Mistake) → Names c m → Names d n
    → Names (option_or c d) (option_or m n)
or_names None d None n first second = second
or_names None d (Some m) n first second = absurd cc
or_names (Some c) d None n first second = absurd cc
or_names (Some c) d (Some m) n first second = first
