use Rattle.std.proofs.Common.{◌∙◌, ap, refl}
use Rattle.hex.specs.Hex.{encode_lower}
use Rattle.check_report.proofs.HashedLines.{stored_value}
use Rattle.check_report.proofs.PrinterEffects.{lines_nothing}
use Rattle.check_report.proofs.component_list.print_hashed.Goals as goal

pub returns-in_err-sha256 : goal.returns-in_err-sha256
returns-in_err-sha256 g c = lines_nothing g.W.Sink _ _ _ _ c.from_residual-in_err-sha256.ensures.1 refl

pub returns : goal.returns
returns g c =
    let stored = stored_value c.as_deref.result _ c.args.digests.now.stored c.as_deref.ensures.value c.in_ok-stored.ensures in
    let sha256 = c.deref.ensures ∙ c.in_ok-sha256.ensures ∙ ap encode_lower c.content.ensures in
    rw (c.hashed_fields-fields.ensures, stored, sha256) at c.line.ensures
