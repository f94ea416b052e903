use Rattle.std.proofs.Common.{◌≡◌, Bool, true, false, IsTrue, refl, rules}
use Rattle.std.specs.Prelude.{not}
use Rattle.cbfs_anchor.specs.Seals.{has_digests}
use Rattle.cbfs_commands.proofs.note.has_outdated_digest.Goals as goal

not_true : (told valid : Bool) → told ≡ not valid → IsTrue told → valid ≡ false
not_true told true is outdated = let wrong : false ≡ true = rw is at outdated in cc
not_true told false is outdated = refl

pub returns-in-Ok-clause-due : goal.returns-in-Ok-clause-due
returns-in-Ok-clause-due g c = λ honest outdated.
    let found = c.in-Ok.ensures.outdated honest in
    (found.0, found.1, not_true _ (has_digests found.0 c.args.paged.now.device.content) found.2 outdated)

-- a must-fail edit breaks it, and then fails at once
pub returns-in-Err-clause-due : goal.returns-in-Err-clause-due
returns-in-Err-clause-due g c = search rules
