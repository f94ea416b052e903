use Rattle.std.proofs.lemmas.Bool.Decides.{nat_tests}
use Rattle.std.proofs.Common.{arith, length, refl}
use Rattle.std.proofs.lemmas.Bool.{le-ltb}
use Rattle.fmd_lang.specs.Table.{area_limit}
use Rattle.fmd_lang.proofs.table.encode.Goals as goal

pub returns-clause-refused : goal.returns-clause-refused
returns-clause-refused c = rw (le-ltb area_limit (length c.args.table.now.areas.items) (omega (arith, c.in-Ok.ensures.0, c.len.ensures))) refl

pub loop-area-init : goal.loop-area-init
loop-area-init c = grind (arith, nat_tests)
