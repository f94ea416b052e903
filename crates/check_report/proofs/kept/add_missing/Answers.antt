use Rattle.std.proofs.Common.{refl}
use Rattle.std.specs.Prelude.{not}
use Rattle.std.specs.List.{list_any}
use Rattle.std.proofs.lemmas.List.{take_all}
use Rattle.check_findings.specs.Areas.{has_name}
use Rattle.check_findings.specs.Lists.{only_if}
use Rattle.check_report.specs.Fields.{name_value}
use Rattle.check_report.specs.FindingRows.{missing_row}
use Rattle.check_report.specs.Reports.{both_areas}
use Rattle.check_report.proofs.SoundRows.{adds_failed, adds_stopped_over}
use Rattle.check_report.proofs.kept.add_missing.Goals as goal

pub returns : goal.returns
returns g c = rw (take_all _ c.args.request.kept.now c.loop-name-test.false) at c.loop-name.invariant

pub returns-in_err-add_if : goal.returns-in_err-add_if
returns-in_err-add_if g c = adds_failed c.from_residual.ensures.1 (adds_stopped_over (λ n. n.now)
    (λ name. only_if (not (list_any (has_name name) (both_areas c.args.request c.args.new_areas.now c.args.changes.now))) (missing_row (name_value name))) c.args.request.kept.now c.loop-name.name-index
    _ _ c.loop-name-test.true refl c.loop-name.invariant
    (rw (c.is_there.ensures, c.areas_or-old_areas.ensures, c.missing_row-missing.ensures) at c.in_err-add_if.ensures))
