use Rattle.std.proofs.Common.{◌≡◌, [], rules}
use Rattle.check_report.specs.Reports.{components_in}
use Rattle.check_report.proofs.PrinterEffects.{lines_failed, prints_none, prints_stopped, prints_then}
use Rattle.check_report.proofs.component_list.list_components.Goals as goal
use Rattle.check_report.proofs.component_list.list_components.Goals.{in-Region+in_ok-list_area, in_default}

pub loop-finding-init : goal.loop-finding-init
loop-finding-init g c = prints_none g.W.Sink _

pub loop-finding-preserved : goal.loop-finding-preserved
loop-finding-preserved g c =
    let then = prints_then g.W.Sink _ c.loop-finding.printer c.match-finding.printer components_in c.args.findings.now c.loop-finding.finding-index
    _ c.finding-item.result c.loop-finding-test.true c.finding-item.is c.loop-finding.invariant in
    elim c.match-finding.branch [
      | in-Region+in_ok-list_area w ↦ then (rw (w.printer-is, w.in-Region.is) (rw (w.text.ensures.value, w.as_slice.ensures) at w.in_ok-list_area.ensures))
      | in_default w ↦
          let none : components_in c.finding-item.result ≡ [] = search rules in
          then (rw (w.printer-is, none) (prints_none g.W.Sink c.loop-finding.printer))
    ]

pub returns-in_err-list_area : goal.returns-in_err-list_area
returns-in_err-list_area g c = lines_failed g.W.Sink _ _ _ _ _ c.from_residual.ensures.1
    (prints_stopped g.W.Sink _ _ _ _ components_in c.args.findings.now c.loop-finding.finding-index
    _ c.finding-item.result c.loop-finding-test.true c.finding-item.is c.loop-finding.invariant (rw c.in-Region.is (rw (c.text.ensures.value, c.as_slice.ensures) at c.in_err-list_area.ensures)))
