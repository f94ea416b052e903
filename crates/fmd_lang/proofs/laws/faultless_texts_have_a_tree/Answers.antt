use Rattle.fmd_lang.proofs.FaultlessLemmas.{faultless-tree}
use Rattle.fmd_lang.proofs.laws.faultless_texts_have_a_tree.Goals as goal

pub returns : goal.returns
returns c = faultless-tree c.args.text.now c.requires
