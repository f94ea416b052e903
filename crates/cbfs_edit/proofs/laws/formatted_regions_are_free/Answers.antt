use Rattle.cbfs_edit.proofs.FormatLemmas.{formatted_free}
use Rattle.cbfs_edit.proofs.laws.formatted_regions_are_free.Goals as goal

pub returns : goal.returns
returns c = formatted_free
