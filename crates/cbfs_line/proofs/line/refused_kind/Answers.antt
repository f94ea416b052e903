use Rattle.std.proofs.Common.{◌≡◌, [], List, ℕ, map}
use Rattle.std.specs.Borrow.{Bor}
use Rattle.clap.specs.Words.{HasKind}
use Rattle.cbfs_line.proofs.Matches.{among_unless_memory, by_faults}
use Rattle.cbfs_line.proofs.line.refused_kind.Goals as goal

pub returns-in-Ok : goal.returns-in-Ok
returns-in-Ok c =
    by_faults (λ kinds. kinds ≡ []) _ (map (λ (w : Bor (List ℕ)). w.now) c.args.words.now)
    c.in_ok-whole_command.ensures.shape c.in-Ok.ensures.kinds

pub returns : goal.returns
returns c =
    let told = by_faults (λ kinds. HasKind kinds c.in-Err.error) _ (map (λ (w : Bor (List ℕ)). w.now) c.args.words.now)
    c.in_ok-whole_command.ensures.shape c.in-Err.ensures.kinds in
    among_unless_memory _ c.in-Err.error c.kind.result c.kind.ensures told c.in_default.not-OutOfMemory
