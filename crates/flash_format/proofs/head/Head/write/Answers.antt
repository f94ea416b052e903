use Rattle.std.proofs.Common.{arith, rules}
use Rattle.flash_format.specs.Head.{head_bytes}
use Rattle.flash_format.proofs.FieldWrites.{head_is_read_back}
use Rattle.flash_format.proofs.head.Head.write.Goals as goal

pub returns-clause-read_back : goal.returns-clause-read_back
unfolding head_bytes
returns-clause-read_back c = head_is_read_back _ c.args.self.now (search rules) (omega arith) (omega arith) (omega arith) (omega arith)
