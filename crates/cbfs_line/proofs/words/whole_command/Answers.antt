use Rattle.std.proofs.Common.{refl, ◌∙◌, arith}
use Rattle.cbfs_line.proofs.Tables.{one_more, ended, with_row, with_rows}
use Rattle.cbfs_line.proofs.words.whole_command.Goals as goal

pub loop-rows-preserved : goal.loop-rows-preserved
loop-rows-preserved c = record {
  local = c.in_ok-command.ensures.local;
  shape = one_more with_row with_rows (λ a row rows. refl) c.loop-rows.rows.now _ _ _ (omega arith) c.in_ok-command.ensures.shape ∙ c.loop-rows.invariant.shape;
}

pub returns-clause-shape : goal.returns-clause-shape
returns-clause-shape c = ended with_rows (λ a. refl) c.loop-rows.rows.now _ _ (omega arith) c.loop-rows.invariant.shape
