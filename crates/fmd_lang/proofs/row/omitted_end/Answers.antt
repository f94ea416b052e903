use Rattle.std.proofs.lemmas.Grind.{common_steps}
use Rattle.std.proofs.Common.{◌+◌, arith}
use Rattle.fmd_lang.proofs.row.omitted_end.Goals as goal

pub loop-sibling-preserved : goal.loop-sibling-preserved
loop-sibling-preserved c = (c.loop-sibling.invariant.0 + c.unwrap_or.result, grind (arith, common_steps), grind (arith, common_steps))
