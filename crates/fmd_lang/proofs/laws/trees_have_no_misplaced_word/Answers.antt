use Rattle.fmd_lang.proofs.TreeLemmas.{text-placed}
use Rattle.fmd_lang.proofs.laws.trees_have_no_misplaced_word.Goals as goal

pub returns : goal.returns
returns c = λ t at what is. text-placed t c.args.text.now is at what
