use Rattle.std.proofs.Common.{◌+◌, ◌*◌, arith}
use Rattle.check_changes.proofs.AreaLemmas.BlockLemmas.{differs-bytes_in}
use Rattle.check_changes.proofs.images.Images.is_different.Goals as goal

pub returns-clause-different : goal.returns-clause-different
returns-clause-different g c = λ old new.
    let start = c.args.number * 4096 in
    differs-bytes_in c.args.regions.old c.args.regions.new _ _ _ _ c.args.number start (c.start.result + start) (c.start-2.result + start) c.min-old_size.result c.min-new_size.result _
    (omega arith) (omega arith) (omega arith) (omega arith) (omega arith) (omega arith) (omega arith) (c.in-Ok.ensures.read old) (c.in-Ok-piece.ensures.read new) c.ne.ensures
