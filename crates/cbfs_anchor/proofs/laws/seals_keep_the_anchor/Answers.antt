use Rattle.cbfs_anchor.proofs.SealedAnchors.{first_kept, survey_kept}
use Rattle.cbfs_anchor.proofs.laws.seals_keep_the_anchor.Goals as goal

pub returns-clause-by_map : goal.returns-clause-by_map
returns-clause-by_map c = survey_kept

pub returns-clause-found : goal.returns-clause-found
returns-clause-found c = first_kept
