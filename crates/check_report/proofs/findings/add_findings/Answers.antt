use Rattle.std.proofs.Common.{ap, rules, ◌∙◌}
use Rattle.check_report.specs.FindingRows.{rows_of}
use Rattle.check_report.specs.Rows.{of_area}
use Rattle.check_report.proofs.SoundRows.{adds_failed, adds_stopped, adds_then}
use Rattle.check_report.proofs.findings.add_findings.Goals.{in-Map+in_ok-add-in-Map, in-Anchor+in_ok-add-in-Anchor, in-Region+in_ok-add_region-in-Region, in-NotChecked+in_ok-add-in-NotChecked, in-NoArea+in_ok-add-in-NoArea}
use Rattle.check_report.proofs.findings.add_findings.Goals as goal

pub loop-finding-preserved : goal.loop-finding-preserved
loop-finding-preserved g c =
    let then = adds_then (rows_of c.args.asked c.args.names.now) c.args.findings.now c.loop-finding.finding-index _ c.finding-item.result
    c.loop-finding-test.true c.finding-item.is c.loop-finding.invariant in
    elim c.match-finding.branch [
      | in-Map+in_ok-add-in-Map w ↦ then (rw (w.rows-is, w.in-Map.is) (search rules))
      | in-Anchor+in_ok-add-in-Anchor w ↦ then (rw (w.rows-is, w.in-Anchor.is) (search rules))
      | in-Region+in_ok-add_region-in-Region w ↦ then (rw (w.rows-is, w.in-Region.is) (rw (w.text.ensures.value, w.as_slice.ensures) at w.in_ok-add_region-in-Region.ensures))
      | in-NotChecked+in_ok-add-in-NotChecked w ↦ then (rw (w.rows-is, w.in-NotChecked.is) (rw (w.of.ensures ∙ ap (of_area w.in-NotChecked.area) w.row-row.ensures, w.of_finding.ensures) at w.in_ok-add-in-NotChecked.ensures))
      | in-NoArea+in_ok-add-in-NoArea w ↦ then (rw (w.rows-is, w.in-NoArea.is) (search rules))
    ]

pub returns-in_err-add-in-Map : goal.returns-in_err-add-in-Map
returns-in_err-add-in-Map g c = adds_failed c.from_residual.ensures.1 (adds_stopped (rows_of c.args.asked c.args.names.now) c.args.findings.now c.loop-finding.finding-index
    _ c.finding-item.result c.loop-finding-test.true c.finding-item.is c.loop-finding.invariant (rw c.in-Map.is (search rules)))

pub returns-in_err-add-in-Anchor : goal.returns-in_err-add-in-Anchor
returns-in_err-add-in-Anchor g c = adds_failed c.from_residual-in_err-add-in-Anchor.ensures.1 (adds_stopped (rows_of c.args.asked c.args.names.now) c.args.findings.now c.loop-finding.finding-index
    _ c.finding-item.result c.loop-finding-test.true c.finding-item.is c.loop-finding.invariant (rw c.in-Anchor.is (search rules)))

pub returns-in_err-add_region-in-Region : goal.returns-in_err-add_region-in-Region
returns-in_err-add_region-in-Region g c = adds_failed c.from_residual-in_err-add_region-in-Region.ensures.1 (adds_stopped (rows_of c.args.asked c.args.names.now) c.args.findings.now c.loop-finding.finding-index
    _ c.finding-item.result c.loop-finding-test.true c.finding-item.is c.loop-finding.invariant (rw c.in-Region.is (rw (c.text.ensures.value, c.as_slice.ensures) at c.in_err-add_region-in-Region.ensures)))

pub returns-in_err-add-in-NotChecked : goal.returns-in_err-add-in-NotChecked
returns-in_err-add-in-NotChecked g c = adds_failed c.from_residual-in_err-add-in-NotChecked.ensures.1 (adds_stopped (rows_of c.args.asked c.args.names.now) c.args.findings.now c.loop-finding.finding-index
    _ c.finding-item.result c.loop-finding-test.true c.finding-item.is c.loop-finding.invariant (rw c.in-NotChecked.is (rw (c.of.ensures ∙ ap (of_area c.in-NotChecked.area) c.row-row.ensures, c.of_finding.ensures) at c.in_err-add-in-NotChecked.ensures)))

pub returns-in_err-add-in-NoArea : goal.returns-in_err-add-in-NoArea
returns-in_err-add-in-NoArea g c = adds_failed c.from_residual-in_err-add-in-NoArea.ensures.1 (adds_stopped (rows_of c.args.asked c.args.names.now) c.args.findings.now c.loop-finding.finding-index
    _ c.finding-item.result c.loop-finding-test.true c.finding-item.is c.loop-finding.invariant (rw c.in-NoArea.is (search rules)))
