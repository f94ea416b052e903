use Rattle.std.proofs.Common.{◌≡◌, rules}
use Rattle.flash_device.proofs.DeviceLemmas.{honest_still}
use Rattle.check_findings.specs.Areas.{image_areas}
use Rattle.check_report.specs.Reports.{board_of}
use Rattle.check_report.proofs.change_inspection.inspect_change.Goals as goal

pub returns-clause-checked : goal.returns-clause-checked
returns-clause-checked g c = λ honest_old honest_new.
    let y = c.args.images.now.new_image.device.content in
    let areas : c.in_ok-checked.checked.areas.items ≡ image_areas y = search rules in
    let board : c.in_ok-board.board.items ≡ board_of y = search rules in
    let old = c.old_findings.ensures.after.device in
    let checked = c.check_image-checked.ensures.few.device in
    let structures = c.check_board-board.ensures.after.device in
    let changes = c.in_ok-changes.ensures.calls in
    let old_after = honest_still old.calls.same_honesty honest_old in
    let new_checked = honest_still checked.calls.same_honesty honest_new in
    let new_after = honest_still structures.calls.same_honesty new_checked in
    let slots = c.in_ok-outdated.ensures.slots (honest_still changes.0.device.calls.same_honesty old_after) (honest_still changes.1.device.calls.same_honesty new_after) in
    record {
      findings = search rules;
      board = search rules;
      areas = search rules;
      digests = search rules;
      changes = record {
        old_map = search rules;
        old_areas = search rules;
        old_regions = search rules;
        old_len = search rules;
        new_len = search rules;
        blocks = search rules;
        map = search rules;
        anchor = search rules;
        structures = search rules;
        outdated = rw (
          changes.0.device.unchanged old_after,
          old.unchanged honest_old,
          changes.1.device.unchanged new_after,
          structures.unchanged new_checked,
          checked.unchanged honest_new,
          c.areas_or-old_areas.ensures,
          c.deref-7.ensures.value,
          c.deref-8.ensures.value,
          c.deref-9.ensures.value,
          areas,
          board,
        ) at slots;
        areas = search rules;
        regions = search rules;
      };
    }
