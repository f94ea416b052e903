use Rattle.cbfs_edit.proofs.Groups.{groups_exact}
use Rattle.cbfs_edit.proofs.Runs.{emptied_runs, runs_ascend, runs_exact}
use Rattle.cbfs_edit.proofs.Places.{places_exact}
use Rattle.cbfs_edit.proofs.laws.searches_are_exact.Goals as goal

pub returns : goal.returns
returns c x = record { groups = groups_exact x; free = runs_exact x; order = runs_ascend x; emptied = emptied_runs x; places = places_exact x }
