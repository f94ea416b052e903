use Rattle.std.proofs.Common.{◌∷◌, [], rules}
use Rattle.std.specs.Option.{option_map_or}
use Rattle.check_report.specs.FindingRows.{component_rows, plain_row}
use Rattle.check_report.specs.Rows.{in_area}
use Rattle.check_report.proofs.SoundRows.{adds_failed, adds_stopped}
use Rattle.check_report.proofs.region.add_region.Goals as goal

pub returns-in_err-add-in-Some : goal.returns-in_err-add-in-Some
returns-in_err-add-in-Some g c = adds_failed c.from_residual.ensures.1 (adds_stopped
    (λ finding. option_map_or (λ row. in_area c.args.region.now row ∷ []) (plain_row finding) (component_rows c.args.asked c.args.rules c.args.region.now finding)) c.args.findings.now c.loop-finding.finding-index
    _ c.finding-item.result c.loop-finding-test.true c.finding-item.is c.loop-finding.invariant (search rules))

pub returns-in_err-add_component-in-None : goal.returns-in_err-add_component-in-None
returns-in_err-add_component-in-None g c = adds_failed c.from_residual-in_err-add_component-in-None.ensures.1 (adds_stopped
    (λ finding. option_map_or (λ row. in_area c.args.region.now row ∷ []) (plain_row finding) (component_rows c.args.asked c.args.rules c.args.region.now finding)) c.args.findings.now c.loop-finding.finding-index
    _ c.finding-item.result c.loop-finding-test.true c.finding-item.is c.loop-finding.invariant (search rules))
