use Rattle.check_report.specs.Reports.{listed_of}
use Rattle.check_report.proofs.HashedLines.{hashed_more, hashed_start, hashed_stopped}
use Rattle.check_report.proofs.PrinterEffects.{lines_failed}
use Rattle.check_report.proofs.component_list.list_hashed.Goals as goal

pub loop-finding-init : goal.loop-finding-init
loop-finding-init g c = hashed_start g.W.Sink _ _

pub loop-finding-preserved : goal.loop-finding-preserved
loop-finding-preserved g c =
    hashed_more g.W.Sink listed_of c.args.findings.now c.loop-finding.finding-index _ c.finding-item.result c.loop-finding-test.true c.finding-item.is
    c.loop-finding.invariant c.in_ok-list_hashed_region.ensures.lines c.in_ok-list_hashed_region.ensures.rest

pub returns-in_err-list_hashed_region : goal.returns-in_err-list_hashed_region
returns-in_err-list_hashed_region g c =
    lines_failed g.W.Sink _ _ _ _ _ c.from_residual.ensures.1
    (hashed_stopped g.W.Sink listed_of c.args.findings.now _ c.loop-finding.finding-index _ c.finding-item.result c.loop-finding-test.true c.finding-item.is
    c.loop-finding.invariant c.in_err-list_hashed_region.ensures.lines)
