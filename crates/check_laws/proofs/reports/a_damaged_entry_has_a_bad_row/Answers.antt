use Rattle.std.proofs.Common.{[]}
use Rattle.check_findings.specs.declared.region.finding.RegionFinding.TheVariants.{Complete, Damaged}
use Rattle.flash_format.specs.declared.head.DamageKind.TheVariants.{Extent}
use Rattle.check_report.specs.FindingRows.{finding_rows}
use Rattle.check_laws.specs.Samples.{found_in_area}
use Rattle.check_laws.proofs.BadRows.{a_row_is_bad, no_row_is_bad}
use Rattle.check_laws.proofs.reports.a_damaged_entry_has_a_bad_row.Goals as goal

pub returns-clause-damaged : goal.returns-clause-damaged
returns-clause-damaged c = λ asked. a_row_is_bad (finding_rows asked [] (found_in_area (Damaged 64 Extent))) (c.rows_tell_what_is_bad.ensures.findings asked [] (found_in_area (Damaged 64 Extent)))

pub returns-clause-complete : goal.returns-clause-complete
returns-clause-complete c = λ asked. no_row_is_bad (finding_rows asked [] (found_in_area Complete)) (c.rows_tell_what_is_bad.ensures.findings asked [] (found_in_area Complete))
