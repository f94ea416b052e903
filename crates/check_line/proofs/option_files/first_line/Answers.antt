use Rattle.std.proofs.Common.{Some, None, ap, map, arith}
use Rattle.std.specs.Str.{trim}
use Rattle.std.proofs.lemmas.Str.Pattern.{split_parts}
use Rattle.clap.proofs.CutLemmas.{slice_split-Lacks, slice_split-at}
use Rattle.check_line.proofs.option_files.first_line.Goals as goal

pub returns-in-Some-clause-lines : goal.returns-in-Some-clause-lines
returns-in-Some-clause-lines c =
    let parts = split_parts 10 c.args.text.now (Some (c.in-Some.line, c.in-Some.rest)) c.in-Some.ensures.cases (omega arith) in
    rw (parts.0, c.trim.ensures.trim) (ap (map trim) (slice_split-at _ _ _ parts.1))

pub returns-in-None-clause-lines : goal.returns-in-None-clause-lines
returns-in-None-clause-lines c =
    let lacks = split_parts 10 c.args.text.now None c.in-None.ensures.cases (omega arith) in
    rw c.trim-in-None.ensures.trim (ap (map trim) (slice_split-Lacks _ _ lacks))
