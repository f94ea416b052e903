use Rattle.cbfs_mistakes.proofs.subject.push_subject.Goals as goal

pub returns-in-NotFound : goal.returns-in-NotFound
returns-in-NotFound c = rw (c.in-NotFound.is, ← c.regions-region.ensures, ← c.name_of-name.ensures) c.push_named.ensures

pub returns-in-Exists : goal.returns-in-Exists
returns-in-Exists c = rw (c.in-Exists.is, ← c.regions-region.ensures, ← c.name_of-name.ensures) c.push_named-in-Exists.ensures
