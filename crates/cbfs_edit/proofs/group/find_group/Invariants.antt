use Rattle.std.proofs.Common.{◌-◌}
use Rattle.cbfs_edit.specs.Searches.{IsBefore, group_by}
use Rattle.cbfs_edit.specs.Removals.{removal_in}
use Rattle.cbfs_edit.proofs.Searches.{Surveying}
use Rattle.cbfs_edit.proofs.group.find_group.Given as goal

abbrev pub invariant-loop-cell : goal.invariant-loop-cell
invariant-loop-cell g l =
    Surveying l.fn.region (group_by l.name) (λ x. removal_in x l.name) IsBefore l.walk l.search l.initial.paged l.paged

abbrev pub decreases-loop-cell : goal.decreases-loop-cell
decreases-loop-cell g l = l.walk.region.size - l.walk.at
