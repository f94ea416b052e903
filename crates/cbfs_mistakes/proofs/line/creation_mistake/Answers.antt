use Rattle.cbfs_mistakes.proofs.Named.{or_names}
use Rattle.cbfs_mistakes.proofs.line.creation_mistake.Goals as goal

pub returns : goal.returns
returns c =
    let first = or_names _ _ _ _ c.missing-missing.ensures c.in_ok-regions_mistake.ensures in
    rw (← c.lacks-flash_map.ensures, ← c.regions.ensures, c.or.ensures) first
