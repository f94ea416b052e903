use Rattle.fmd_lang.specs.Grammar.{view}
use Rattle.fmd_lang.proofs.LayoutLemmas.{section_count}
use Rattle.fmd_lang.specs.declared.section.Section.{out-Section}
use Rattle.fmd_lang.proofs.LayoutLemmas.{IsPushed}
use Rattle.fmd_lang.proofs.layout.+push_areas.Given as goal

abbrev pub invariant-loop-index : goal.invariant-loop-index
invariant-loop-index l = IsPushed l.fn.areas.items l.areas.items l.at l.size (view l.section) l.places.items
    (out-Section l.section).parts.items l.index

abbrev pub decreases-push_areas : goal.decreases-push_areas
decreases-push_areas l = section_count (view l.section.now)
