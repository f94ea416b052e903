use Rattle.check_findings.proofs.image.choice.cbfs_areas.Goals as goal

pub returns-clause-areas : goal.returns-clause-areas
returns-clause-areas g c = λ h. rw c.new-none.ensures at (c.wanted_areas.ensures.areas h)
