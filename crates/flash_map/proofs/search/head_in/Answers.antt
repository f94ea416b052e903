use Rattle.std.proofs.Common.{arith, sym}
use Rattle.std.proofs.lemmas.Grind.{common_steps}
use Rattle.flash_map.proofs.FmapLemmas.{map_head-take, valid_fits}
use Rattle.flash_map.proofs.search.head_in.Goals as goal

pub returns-in_err-head-clause-head : goal.returns-in_err-head-clause-head
returns-in_err-head-clause-head c = λ x is size. grind (arith, common_steps, map_head-take x _ _ c.requires is size)

pub returns-then-not-is_valid-clause-head : goal.returns-then-not-is_valid-clause-head
returns-then-not-is_valid-clause-head c = λ x is size. grind (arith, common_steps, map_head-take x _ _ c.requires is size)

pub returns-clause-head : goal.returns-clause-head
returns-clause-head c = λ x is size. grind (arith, common_steps, map_head-take x _ _ c.requires is size)

pub returns-clause-fits : goal.returns-clause-fits
returns-clause-fits c = valid_fits _ _ (sym c.if-not-is_valid.ensures)
