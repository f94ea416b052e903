use Rattle.std.proofs.lemmas.Bool.Decides.{nat_tests}
use Rattle.std.proofs.Common.{arith}
use Rattle.fmd_lang.proofs.SectionNames.{at-name, over-name, over-word}
use Rattle.fmd_lang.proofs.WordLemmas.{words_after-over}
use Rattle.fmd_lang.proofs.position.section_place.Goals as goal

pub loop-from-preserved : goal.loop-from-preserved
loop-from-preserved c = grind (arith, nat_tests, over-name, over-word, words_after-over)

pub returns-then-left-eq0 : goal.returns-then-left-eq0
returns-then-left-eq0 c = grind (arith, nat_tests, at-name)

pub returns : goal.returns
returns c = grind (arith, nat_tests, words_after-over)
