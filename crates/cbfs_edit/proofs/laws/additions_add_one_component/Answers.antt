use Rattle.cbfs_edit.proofs.SearchLaws.{adds_one}
use Rattle.cbfs_edit.proofs.laws.additions_add_one_component.Goals as goal

pub returns : goal.returns
returns c = adds_one
