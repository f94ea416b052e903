use Rattle.fmd_lang.proofs.LayoutLemmas.{one-table}
use Rattle.fmd_lang.proofs.laws.one_table.Goals as goal

pub returns : goal.returns
returns c = λ t one other. one-table t c.args.one.now c.args.other.now one other
