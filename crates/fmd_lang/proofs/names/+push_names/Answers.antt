use Rattle.std.proofs.lemmas.Bool.Decides.{nat_tests}
use Rattle.std.proofs.Common.{append_assoc, arith}
use Rattle.std.proofs.lemmas.List.{append-nil, drop_all, map-append}
use Rattle.fmd_lang.proofs.LayoutLemmas.{names-from, view-is}
use Rattle.fmd_lang.proofs.names.+push_names.Goals as goal

pub loop-part-init : goal.loop-part-init
loop-part-init t c = grind (arith, nat_tests, map-append, view-is, append_assoc)

pub loop-part-preserved : goal.loop-part-preserved
loop-part-preserved t c = grind (arith, names-from, append_assoc)

pub returns : goal.returns
returns t c = grind (arith, nat_tests, append-nil, drop_all)
