use Rattle.cbfs_mistakes.proofs.Named.{or_names}
use Rattle.cbfs_mistakes.proofs.line.addition_mistake.Goals as goal

pub returns : goal.returns
returns c =
    let two = or_names _ _ _ _ c.missing.ensures c.type_mistake.ensures in
    let three = or_names _ _ _ _ two c.place_mistake.ensures in
    let four = or_names _ _ _ _ three c.hash_mistake.ensures in
    rw (← c.lacks.ensures, ← c.lacks-2.ensures, ← c.lacks-3.ensures, c.or-3.ensures, c.or-2.ensures, c.or.ensures) four
