use Rattle.std.proofs.Common.{◌∙◌, arith}
use Rattle.std.proofs.lemmas.List.{take_at, length-take-le}
use Rattle.flash_store.proofs.read_ahead.copy_first.Goals as goal

pub returns-clause-copied : goal.returns-clause-copied
returns-clause-copied c =
    take_at c.copy_from_slice.new.self _ c.min-n.result (omega (arith, c.copy_from_slice.ensures.len, length-take-le c.min-n.result c.args.out.now (omega (arith, c.min-n.ensures)))) ∙ c.copy_from_slice.ensures.after
