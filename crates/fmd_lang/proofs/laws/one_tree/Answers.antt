use Rattle.fmd_lang.specs.Words.{words}
use Rattle.fmd_lang.proofs.TreeLemmas.{one-tree}
use Rattle.fmd_lang.proofs.laws.one_tree.Goals as goal

pub returns : goal.returns
returns c = λ t u one other. one-tree t u (words c.args.text.now) one other
