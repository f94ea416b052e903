use Rattle.std.proofs.Common.{Option, ap, ◌∙◌, arith}
use Rattle.std.specs.Prelude.{is_some}
use Rattle.std.proofs.lemmas.Result.{err_from_is_err_and}
use Rattle.flash_format.specs.declared.head.Head.{Head}
use Rattle.cbfs_walk.proofs.ReadSequences.{Passes-answers}
use Rattle.check_findings.proofs.region.start.has_entry_at.Goals as goal

pub returns-clause-calls : goal.returns-clause-calls
returns-clause-calls g c = Passes-answers c.in_ok-head.ensures.passed (omega arith)

pub returns-in_err-head-clause-calls : goal.returns-in_err-head-clause-calls
returns-in_err-head-clause-calls g c =
    rw (err_from_is_err_and c.from_residual.result c.from_residual.ensures.1).1
    (Passes-answers c.in_err-head.ensures.passed (omega arith))

pub returns-clause-has : goal.returns-clause-has
returns-clause-has g c = λ h. c.is_some.ensures ∙ ap (λ (o : Option Head). is_some o) (c.in_ok-head.ensures.value h)
