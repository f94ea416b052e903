use Rattle.std.proofs.Common.{◌∙◌, Option, ap, sym}
use Rattle.std.specs.Prelude.{is_some}
use Rattle.check_findings.specs.declared.areas.NumberedArea.{NumberedArea}
use Rattle.check_findings.proofs.ImageLemmas.NameLemmas.{missing_more}
use Rattle.check_findings.proofs.image.names.push_missing.Goals as goal

pub loop-number-preserved : goal.loop-number-preserved
loop-number-preserved c =
    missing_more c.args.areas.now c.args.names.now c.loop-number.number _ c.is_none-is_missing.result _ _ _ c.loop-number-test.true
    (ap (λ (o : Option NumberedArea). is_some o) (sym (c.get.ensures ∙ c.in_ok-areas.ensures _)) ∙ c.is_none-is_missing.ensures) c.in_ok-push_if.ensures c.loop-number.invariant
