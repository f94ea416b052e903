use Rattle.std.proofs.Common.{Some, None, arith}
use Rattle.std.proofs.lemmas.Str.Pattern.{split_parts}
use Rattle.clap.proofs.CutLemmas.{slice_split-Lacks, slice_split-at}
use Rattle.check_line.proofs.line.first_part.Goals as goal

pub returns-in-Some-clause-parts : goal.returns-in-Some-clause-parts
returns-in-Some-clause-parts c =
    let parts = split_parts 44 c.args.list.now (Some (c.in-Some.part, c.in-Some.rest)) c.in-Some.ensures.cases (omega arith) in
    rw parts.0 (slice_split-at _ _ _ parts.1)

pub returns-in-None-clause-parts : goal.returns-in-None-clause-parts
returns-in-None-clause-parts c =
    let lacks = split_parts 44 c.args.list.now None c.in-None.ensures.cases (omega arith) in
    slice_split-Lacks _ _ lacks
