use Rattle.std.proofs.Common.{rules, append_assoc}
use Rattle.std.proofs.lemmas.List.{take_all}
use Rattle.std.proofs.lemmas.Result.{IfOk-equal}
use Rattle.check_report.proofs.Tokens.{bytes_tokens, name_tokens-bytes, name_tokens-utf8}
use Rattle.check_report.proofs.rows.document.put_name.Goals as goal

pub returns-in-Ok : goal.returns-in-Ok
returns-in-Ok c =
    let cases = c.in-Ok.ensures.cases in
    rw (name_tokens-utf8 c.args.name.now cases.1, ← cases.0) c.put.ensures

pub returns : goal.returns
returns c =
    let name = c.args.name.now in
    let all = rw (take_all _ name c.loop-byte-test.false) at c.loop-byte.invariant in
    rw (name_tokens-bytes name c.in_default.ensures.cases.0, bytes_tokens name) (search (rules, IfOk-equal, append_assoc, all.tokens, all.before))
