use Rattle.std.proofs.lemmas.Bool.Decides.{nat_tests}
use Rattle.std.proofs.Common.{arith, inr, Some, None}
use Rattle.std.proofs.lemmas.Result.{err_from_is_err_and}
use Rattle.fmd_lang.proofs.LayoutLemmas.{count-below, few-sections, root-sized, table-is}
use Rattle.fmd_lang.proofs.layout.lay_out.Goals as goal

pub push_areas-requires-clause-count : goal.push_areas-requires-clause-count
push_areas-requires-clause-count c = grind (arith, nat_tests, few-sections)

pub returns-in-None : goal.returns-in-None
returns-in-None c = record { table = tt; refused = inr (root-sized c.args.root.now None c.in_ok-check_names_of.ensures c.in-None.is) }

pub returns-in-Some-eq0 : goal.returns-in-Some-eq0
returns-in-Some-eq0 c =
    let sized = root-sized c.args.root.now (Some c.in-Some-eq0.field-0) c.in_ok-check_names_of.ensures c.in-Some-eq0.is in
    grind (arith, nat_tests)

pub returns-in_err-push_areas : goal.returns-in_err-push_areas
returns-in_err-push_areas c =
    let sized = root-sized c.args.root.now (Some c.in-Some.size) c.in_ok-check_names_of.ensures c.in-Some.is in
    grind (arith, nat_tests, err_from_is_err_and)

pub overflow_mul-len : goal.overflow_mul-len
overflow_mul-len c = grind (arith, nat_tests, few-sections, count-below)

pub returns : goal.returns
returns c =
    let sized = root-sized c.args.root.now (Some c.in-Some.size) c.in_ok-check_names_of.ensures c.in-Some.is in
    grind (arith, nat_tests, table-is)
