use Rattle.std.proofs.Common.{◌≡◌, ◌∙◌, sym}
use Rattle.flash_device.specs.Pages.{Returns}
use Rattle.flash_device.specs.Regions.{bytes_in}
use Rattle.flash_device.proofs.WindowLemmas.{HasRead-then}
use Rattle.board_structures.specs.Filling.{each_byte_is}
use Rattle.board_structures.specs.SignedSlots.{checksum_fault, keyblock_in, state_at}
use Rattle.board_structures.proofs.Parts.{told_after}
use Rattle.board_structures.proofs.SlotLemmas.{broken_slot, cleared_slot, erased_slot, refused_slot, signed_slot}
use Rattle.board_structures.proofs.signed_slot.read_signed_slot.Goals as goal

pub returns-then-branch-clause-state : goal.returns-then-branch-clause-state
returns-then-branch-clause-state g c = λ h. erased_slot c.args.body _ (sym (c.in_ok-each_byte_is.ensures.value h) ∙ c.if-branch.true)

pub returns-then-branch-2-clause-state : goal.returns-then-branch-2-clause-state
returns-then-branch-2-clause-state g c = λ h.
    let cleared = told_after c.in_ok-each_byte_is.ensures.after.read (λ image. c.in_ok-each_byte_is-2.field-0 ≡ each_byte_is 0 (bytes_in c.args.area image)) c.in_ok-each_byte_is-2.ensures.value h in
    cleared_slot c.args.body _ (sym (c.in_ok-each_byte_is.ensures.value h) ∙ c.if-branch.false) (sym cleared ∙ c.if-branch-2.true)

pub returns-in-Err-clause-state : goal.returns-in-Err-clause-state
returns-in-Err-clause-state g c = λ h.
    let first = c.in_ok-each_byte_is.ensures.after.read in
    let second = HasRead-then _ _ 0 _ _ _ first c.in_ok-each_byte_is-2.ensures.after.read in
    let cleared = told_after first (λ image. c.in_ok-each_byte_is-2.field-0 ≡ each_byte_is 0 (bytes_in c.args.area image)) c.in_ok-each_byte_is-2.ensures.value h in
    let keyblock = told_after second (λ image. c.in_ok-keyblock.field-0 ≡ keyblock_in (bytes_in c.args.area image)) c.in_ok-keyblock.ensures.keyblock h in
    refused_slot c.args.body _ c.in-Err.fault (sym (c.in_ok-each_byte_is.ensures.value h) ∙ c.if-branch.false) (sym cleared ∙ c.if-branch-2.false) (sym keyblock ∙ c.in-Err.is)

pub returns-in-Some-clause-state : goal.returns-in-Some-clause-state
returns-in-Some-clause-state g c = λ h.
    let first = c.in_ok-each_byte_is.ensures.after.read in
    let second = HasRead-then _ _ 0 _ _ _ first c.in_ok-each_byte_is-2.ensures.after.read in
    let third = HasRead-then _ 1 0 _ _ _ second c.in_ok-keyblock.ensures.after.read in
    let cleared = told_after first (λ image. c.in_ok-each_byte_is-2.field-0 ≡ each_byte_is 0 (bytes_in c.args.area image)) c.in_ok-each_byte_is-2.ensures.value h in
    let keyblock = told_after second (λ image. c.in_ok-keyblock.field-0 ≡ keyblock_in (bytes_in c.args.area image)) c.in_ok-keyblock.ensures.keyblock h in
    let checksum = told_after third (λ image. c.in_ok-fault.field-0 ≡ checksum_fault c.in-Ok.keyblock.checksum (bytes_in c.args.area image)) c.in_ok-fault.ensures.fault h in
    broken_slot c.args.body _ c.in-Ok.keyblock c.in-Some.fault (sym (c.in_ok-each_byte_is.ensures.value h) ∙ c.if-branch.false) (sym cleared ∙ c.if-branch-2.false) (sym keyblock ∙ c.in-Ok.is) (sym checksum ∙ c.in-Some.is)

pub returns-in-None-clause-state : goal.returns-in-None-clause-state
returns-in-None-clause-state g c = λ h.
    let first = c.in_ok-each_byte_is.ensures.after.read in
    let second = HasRead-then _ _ 0 _ _ _ first c.in_ok-each_byte_is-2.ensures.after.read in
    let third = HasRead-then _ 1 0 _ _ _ second c.in_ok-keyblock.ensures.after.read in
    let fourth = HasRead-then _ 2 0 _ _ _ third c.in_ok-fault.ensures.after.read in
    let cleared = told_after first (λ image. c.in_ok-each_byte_is-2.field-0 ≡ each_byte_is 0 (bytes_in c.args.area image)) c.in_ok-each_byte_is-2.ensures.value h in
    let keyblock = told_after second (λ image. c.in_ok-keyblock.field-0 ≡ keyblock_in (bytes_in c.args.area image)) c.in_ok-keyblock.ensures.keyblock h in
    let checksum = told_after third (λ image. c.in_ok-fault.field-0 ≡ checksum_fault c.in-Ok.keyblock.checksum (bytes_in c.args.area image)) c.in_ok-fault.ensures.fault h in
    let state = told_after fourth (λ image. Returns c.state_at.result (state_at c.args.body c.in-Ok.keyblock.len (bytes_in c.args.area image))) c.state_at.ensures.state h in
    rw (sym (signed_slot c.args.body _ c.in-Ok.keyblock (sym (c.in_ok-each_byte_is.ensures.value h) ∙ c.if-branch.false) (sym cleared ∙ c.if-branch-2.false) (sym keyblock ∙ c.in-Ok.is) (sym checksum ∙ c.in-None.is))) state
