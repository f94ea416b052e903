use Rattle.std.proofs.Common.{◌∙◌, ap, refl}
use Rattle.check_report.specs.Rows.{names_in}
use Rattle.check_report.proofs.SoundRows.{adds_after, adds_before, adds_failed, adds_none}
use Rattle.check_report.proofs.inspection.add_changes.Goals as goal

pub returns : goal.returns
returns g c =
    let kept = ap names_in c.in_ok-kept.ensures ∙ c.in_ok-kept_names.ensures in
    let vital = ap names_in c.in_ok-vital-2.ensures ∙ rw (c.deref.ensures.value, c.deref-2.ensures.value, kept) at c.in_ok-vital.ensures in
    let map = rw c.deref-3.ensures.value at c.in_ok-add_map_changes.ensures in
    let lost = c.in_ok-add_structure_changes.ensures in
    let areas = rw (c.deref-4.ensures.value, kept, vital) at c.in_ok-add_area_changes.ensures in
    let regions = rw (c.deref-5.ensures.value, kept) at c.in_ok-add_region_changes.ensures in
    adds_after (adds_after (adds_after (adds_after (adds_after (adds_after c.in_ok-add_image_changes.ensures map) c.in_ok-add_anchor_change.ensures) lost) areas) regions)
    c.add_absent.ensures

pub returns-in_err-kept_names : goal.returns-in_err-kept_names
returns-in_err-kept_names g c = adds_failed c.from_residual.ensures.1 (adds_none refl refl)

pub returns-in_err-kept : goal.returns-in_err-kept
returns-in_err-kept g c = adds_failed c.from_residual-in_err-kept.ensures.1 (adds_none refl refl)

pub returns-in_err-vital : goal.returns-in_err-vital
returns-in_err-vital g c = adds_failed c.from_residual-in_err-vital.ensures.1 (adds_none refl refl)

pub returns-in_err-vital-2 : goal.returns-in_err-vital-2
returns-in_err-vital-2 g c = adds_failed c.from_residual-in_err-vital-2.ensures.1 (adds_none refl refl)

pub returns-in_err-add_image_changes : goal.returns-in_err-add_image_changes
returns-in_err-add_image_changes g c =
    adds_failed c.from_residual-in_err-add_image_changes.ensures.1 (adds_before _ (adds_before _ (adds_before _ (adds_before _ (adds_before _ (adds_before _ c.in_err-add_image_changes.ensures))))))

pub returns-in_err-add_map_changes : goal.returns-in_err-add_map_changes
returns-in_err-add_map_changes g c =
    adds_failed c.from_residual-in_err-add_map_changes.ensures.1 (adds_before _ (adds_before _ (adds_before _ (adds_before _ (adds_before _ (adds_after c.in_ok-add_image_changes.ensures (rw c.deref-3.ensures.value at c.in_err-add_map_changes.ensures)))))))

pub returns-in_err-add_anchor_change : goal.returns-in_err-add_anchor_change
returns-in_err-add_anchor_change g c =
    adds_failed c.from_residual-in_err-add_anchor_change.ensures.1 (adds_before _ (adds_before _ (adds_before _ (adds_before _ (adds_after (adds_after c.in_ok-add_image_changes.ensures (rw c.deref-3.ensures.value at c.in_ok-add_map_changes.ensures)) c.in_err-add_anchor_change.ensures)))))

pub returns-in_err-add_structure_changes : goal.returns-in_err-add_structure_changes
returns-in_err-add_structure_changes g c =
    adds_failed c.from_residual-in_err-add_structure_changes.ensures.1 (adds_before _ (adds_before _ (adds_before _ (adds_after (adds_after (adds_after c.in_ok-add_image_changes.ensures (rw c.deref-3.ensures.value at c.in_ok-add_map_changes.ensures)) c.in_ok-add_anchor_change.ensures) c.in_err-add_structure_changes.ensures))))

pub returns-in_err-add_area_changes : goal.returns-in_err-add_area_changes
returns-in_err-add_area_changes g c =
    let kept = ap names_in c.in_ok-kept.ensures ∙ c.in_ok-kept_names.ensures in
    let vital = ap names_in c.in_ok-vital-2.ensures ∙ rw (c.deref.ensures.value, c.deref-2.ensures.value, kept) at c.in_ok-vital.ensures in
    adds_failed c.from_residual-in_err-add_area_changes.ensures.1 (adds_before _ (adds_before _ (adds_after (adds_after (adds_after (adds_after c.in_ok-add_image_changes.ensures (rw c.deref-3.ensures.value at c.in_ok-add_map_changes.ensures)) c.in_ok-add_anchor_change.ensures) c.in_ok-add_structure_changes.ensures) (rw (c.deref-4.ensures.value, kept, vital) at c.in_err-add_area_changes.ensures))))

pub returns-in_err-add_region_changes : goal.returns-in_err-add_region_changes
returns-in_err-add_region_changes g c =
    let kept = ap names_in c.in_ok-kept.ensures ∙ c.in_ok-kept_names.ensures in
    let vital = ap names_in c.in_ok-vital-2.ensures ∙ rw (c.deref.ensures.value, c.deref-2.ensures.value, kept) at c.in_ok-vital.ensures in
    adds_failed c.from_residual-in_err-add_region_changes.ensures.1 (adds_before _ (adds_after (adds_after (adds_after (adds_after (adds_after c.in_ok-add_image_changes.ensures (rw c.deref-3.ensures.value at c.in_ok-add_map_changes.ensures)) c.in_ok-add_anchor_change.ensures) c.in_ok-add_structure_changes.ensures) (rw (c.deref-4.ensures.value, kept, vital) at c.in_ok-add_area_changes.ensures)) (rw (c.deref-5.ensures.value, kept) at c.in_err-add_region_changes.ensures)))
