use Rattle.std.proofs.Common.{◌≡◌, ◌+◌, drop, length}
use Rattle.fmd_lang.specs.Grammar.{names_of, view, views}
use Rattle.fmd_lang.proofs.LayoutLemmas.{section_count}
use Rattle.fmd_lang.proofs.layout.+count.Given as goal

abbrev pub invariant-loop-part : goal.invariant-loop-part
invariant-loop-part l = l.all + length (names_of (views (drop l.part-index l.part-items))) ≡ section_count (view l.section)
