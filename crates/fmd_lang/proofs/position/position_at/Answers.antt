use Rattle.std.proofs.Common.{arith, length, min, rules}
use Rattle.std.proofs.lemmas.Grind.{common_steps}
use Rattle.fmd_lang.proofs.LineStarts.{begins-in, reaches}
use Rattle.fmd_lang.proofs.WordLemmas.{tail}
use Rattle.fmd_lang.proofs.position.position_at.Goals as goal

pub returns-clause-position : goal.returns-clause-position
returns-clause-position c =
    let at = min c.args.at (length c.args.text.now) in
    let start = c.line_start-start.result in
    let begins = begins-in c.args.text.now at start (omega arith) (search rules) in
    record {
      start = start;
      begins = begins;
      column = omega (arith, begins.before);
      line = search rules;
      source = grind (arith, common_steps, tail);
    }

pub returns-clause-column : goal.returns-clause-column
returns-clause-column c =
    let at = min c.args.at (length c.args.text.now) in
    let start = c.line_start-start.result in
    let begins = begins-in c.args.text.now at start (omega arith) (search rules) in
    let far = reaches c.args.text.now at start c.line_len.result (omega arith) begins (grind (arith, common_steps, tail)) in
    grind (arith, common_steps, far)
