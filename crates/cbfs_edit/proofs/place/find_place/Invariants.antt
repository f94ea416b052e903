use Rattle.std.proofs.Common.{◌-◌}
use Rattle.cbfs_edit.specs.Places.{placing_in}
use Rattle.cbfs_edit.specs.Searches.{IsSurvey, place_by}
use Rattle.cbfs_edit.proofs.Searches.{Surveying}
use Rattle.cbfs_edit.proofs.place.find_place.Given as goal

abbrev pub invariant-loop-cell : goal.invariant-loop-cell
invariant-loop-cell g l =
    let size = l.fn.region.size in
    Surveying l.fn.region (λ s at cells. place_by l.name l.wanted size s cells) (λ x. placing_in x l.name l.wanted) (IsSurvey l.wanted size) l.walk l.survey l.initial.paged l.paged

abbrev pub decreases-loop-cell : goal.decreases-loop-cell
decreases-loop-cell g l = l.walk.region.size - l.walk.at
