use Rattle.std.proofs.Common.{length, ◌-◌, ◌≡◌, ◌≤◌, false}
use Rattle.std.specs.List.{slice_get}
use Rattle.fmd_lang.specs.Words.{words_after}
use Rattle.fmd_lang.specs.Positions.{section_words}
use Rattle.fmd_lang.proofs.position.section_place.Given as goal

abbrev pub invariant-loop-from : goal.invariant-loop-from
invariant-loop-from l = (l.from ≤ length l.text) × (slice_get (section_words false (words_after l.text 0)) l.section
    ≡ slice_get (section_words l.inside (words_after l.text l.from)) l.left)

abbrev pub decreases-loop-from : goal.decreases-loop-from
decreases-loop-from l = length l.text - l.from
