use Rattle.cbfs_anchor.proofs.SealLaws.{digests_valid, sealed_again}
use Rattle.cbfs_anchor.proofs.laws.sealed_images_are_valid.Goals as goal

pub returns-clause-valid : goal.returns-clause-valid
returns-clause-valid c = digests_valid

pub returns-clause-again : goal.returns-clause-again
returns-clause-again c = sealed_again
