use Rattle.std.proofs.Common.{rules}
use Rattle.cbfs_edit.specs.Removals.{group_from, row_end}
use Rattle.cbfs_edit.proofs.group.search_over.Goals as goal

pub returns-then-is_free-2-clause-calls : goal.returns-then-is_free-2-clause-calls
returns-then-is_free-2-clause-calls g c = search rules

pub returns-then-branch-clause-passed : goal.returns-then-branch-clause-passed
unfolding group_from row_end
returns-then-branch-clause-passed g c = search rules
