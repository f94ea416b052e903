use Rattle.std.proofs.Common.{◌≡◌, []}
use Rattle.clap.specs.Words.{HasKind}
use Rattle.check_line.proofs.Matches.{by_faults, matched}
use Rattle.check_line.proofs.reading.parse.Goals as goal

pub returns-in-Ok-try_get_matches_from : goal.returns-in-Ok-try_get_matches_from
returns-in-Ok-try_get_matches_from c =
    let clap = c.in-Ok-try_get_matches_from.ensures in
    (by_faults (λ kinds. kinds ≡ []) _ c.args.words.now c.in-Ok.ensures clap.kinds, matched _ _ c.in-Ok-try_get_matches_from.matches c.in-Ok.ensures clap.matches)

pub returns-in-Err : goal.returns-in-Err
returns-in-Err c = rw c.kind.ensures (by_faults (λ kinds. HasKind kinds c.in-Err.error) _ c.args.words.now c.in-Ok.ensures c.in-Err.ensures.kinds)
