use Rattle.std.proofs.Common.{◌≡◌, ◌∙◌, ◌<◌, ◌∷◌, [], ap, get_or, length, refl, sym, take, ℕ, List, Ok, Err}
use Rattle.std.specs.Prelude.{Some}
use Rattle.std.specs.Option.{option_map_or}
use Rattle.flash_device.specs.declared.sink.Sink.{Ghosts as SinkOf}
use Rattle.check_findings.specs.declared.image.finding.ImageFinding.{ImageFinding}
use Rattle.check_findings.specs.declared.image.needs.Need.{Need}
use Rattle.check_findings.specs.declared.image.needs.NeedFinding.{NeedFinding}
use Rattle.check_findings.specs.Needs.{unmet}
use Rattle.check_report.specs.declared.fault.WriteFault.{WriteFault}
use Rattle.check_report.specs.declared.rows.writer.RowWriter.{RowWriter}
use Rattle.check_report.specs.Effects.{Adds}
use Rattle.check_report.specs.FindingRows.{need_row, need_rows}
use Rattle.check_report.specs.Rows.{of_component}
use Rattle.check_report.proofs.SoundRows.{adds_failed, adds_stopped}
use Rattle.check_report.proofs.findings.add_needs.Goals as goal

-- a fault in the row of an unmet need
need_stopped : {W : Type 0} {sink : SinkOf W} {first old new : RowWriter W} {e : WriteFault} (findings : List ImageFinding) (needs : List Need) (i : ℕ) (d need : Need) (finding : NeedFinding)
    → i < length needs → need ≡ get_or needs i d → unmet findings need ≡ Some finding → Adds sink (Ok tt) first old (need_rows findings (take i needs))
    → Adds sink (Err e) old new (of_component need.area.now need.name.now (need_row finding) ∷ []) → Adds sink (Err e) first new (need_rows findings needs)
need_stopped findings needs i d need finding lt is some so_far failed =
    adds_stopped (λ need. option_map_or (λ finding. of_component need.area.now need.name.now (need_row finding) ∷ []) (unmet findings need) []) needs i d need lt is so_far (rw some failed)

pub returns-in_err-add : goal.returns-in_err-add
returns-in_err-add g c =
    adds_failed c.from_residual.ensures.1 (need_stopped c.args.findings.now c.args.needs.now c.loop-need.need-index _ _ c.in-Some.finding c.loop-need-test.true refl
    (sym c.unmet.ensures ∙ c.in-Some.is) c.loop-need.invariant (rw (c.of_component.ensures ∙ ap (of_component _ _) c.need_row.ensures) at c.in_err-add.ensures))
