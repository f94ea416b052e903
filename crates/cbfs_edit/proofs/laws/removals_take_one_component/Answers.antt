use Rattle.cbfs_edit.proofs.Removals.{removal_takes_one}
use Rattle.cbfs_edit.proofs.laws.removals_take_one_component.Goals as goal

pub returns : goal.returns
returns c = removal_takes_one
