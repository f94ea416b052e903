use Rattle.cbfs_anchor.proofs.SealLaws.{metadata_changed}
use Rattle.cbfs_anchor.proofs.laws.changed_metadata_is_hashed.Goals as goal

pub returns : goal.returns
returns c = metadata_changed
