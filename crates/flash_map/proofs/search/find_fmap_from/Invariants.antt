use Rattle.std.specs.Prelude.{◌-◌}
use Rattle.flash_map.proofs.FmapLemmas.{SearchedTo}
use Rattle.flash_map.proofs.search.find_fmap_from.Given as goal

abbrev pub invariant-loop-place : goal.invariant-loop-place
invariant-loop-place g l = SearchedTo l.initial.place l.place l.initial.paged l.paged

abbrev pub decreases-loop-place : goal.decreases-loop-place
decreases-loop-place g l = l.len - l.place
