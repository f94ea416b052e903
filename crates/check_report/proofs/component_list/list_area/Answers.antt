use Rattle.std.proofs.Common.{◌≡◌, [], rules}
use Rattle.check_report.specs.Reports.{component_lines}
use Rattle.check_report.proofs.PrinterEffects.{lines_failed, prints_none, prints_stopped, prints_then}
use Rattle.check_report.proofs.component_list.list_area.Goals as goal
use Rattle.check_report.proofs.component_list.list_area.Goals.{in-Component+in_ok-line, in_default}

pub loop-finding-init : goal.loop-finding-init
loop-finding-init g c = prints_none g.W.Sink _

pub loop-finding-preserved : goal.loop-finding-preserved
loop-finding-preserved g c =
    let then = prints_then g.W.Sink _ c.loop-finding.printer c.match-finding.printer (component_lines c.args.area.now) c.args.findings.now c.loop-finding.finding-index
    _ c.finding-item.result c.loop-finding-test.true c.finding-item.is c.loop-finding.invariant in
    elim c.match-finding.branch [
      | in-Component+in_ok-line w ↦
          let fields = rw w.as_slice.ensures at w.component_fields-fields.ensures in
          then (rw (w.printer-is, w.in-Component.is) (rw fields at w.in_ok-line.ensures))
      | in_default w ↦
          let none : component_lines c.args.area.now c.finding-item.result ≡ [] = search rules in
          then (rw (w.printer-is, none) (prints_none g.W.Sink c.loop-finding.printer))
    ]

pub returns-in_err-line : goal.returns-in_err-line
returns-in_err-line g c =
    let fields = rw c.as_slice.ensures at c.component_fields-fields.ensures in
    lines_failed g.W.Sink _ _ _ _ _ c.from_residual.ensures.1
    (prints_stopped g.W.Sink _ _ _ _ (component_lines c.args.area.now) c.args.findings.now c.loop-finding.finding-index
    _ c.finding-item.result c.loop-finding-test.true c.finding-item.is c.loop-finding.invariant (rw c.in-Component.is (rw fields at c.in_err-line.ensures)))
