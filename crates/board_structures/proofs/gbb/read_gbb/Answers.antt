use Rattle.std.proofs.Common.{◌≡◌, ◌∙◌, sym}
use Rattle.flash_device.specs.Regions.{bytes_in}
use Rattle.flash_device.proofs.WindowLemmas.{HasRead-then}
use Rattle.board_structures.specs.GoogleBinaryBlocks.{content_fault, header_in}
use Rattle.board_structures.proofs.Parts.{told_after}
use Rattle.board_structures.proofs.GbbLemmas.{blank_block, broken_block, sound_block, unreadable_block}
use Rattle.board_structures.proofs.gbb.read_gbb.Goals as goal

pub returns-then-branch-clause-state : goal.returns-then-branch-clause-state
returns-then-branch-clause-state g c = λ h. blank_block _ (sym (c.in_ok-each_byte_is.ensures.value h) ∙ c.if-branch.true)

pub returns-in-Err-clause-state : goal.returns-in-Err-clause-state
returns-in-Err-clause-state g c = λ h.
    let header = told_after c.in_ok-each_byte_is.ensures.after.read (λ image. c.in_ok-header.field-0 ≡ header_in (bytes_in c.args.area image)) c.in_ok-header.ensures.header h in
    unreadable_block _ c.in-Err.fault (sym (c.in_ok-each_byte_is.ensures.value h) ∙ c.if-branch.false) (sym header ∙ c.in-Err.is)

pub returns-in-Some-clause-state : goal.returns-in-Some-clause-state
returns-in-Some-clause-state g c = λ h.
    let first = c.in_ok-each_byte_is.ensures.after.read in
    let both = HasRead-then _ 1 0 _ _ _ first c.in_ok-header.ensures.after.read in
    let header = told_after first (λ image. c.in_ok-header.field-0 ≡ header_in (bytes_in c.args.area image)) c.in_ok-header.ensures.header h in
    let content = told_after both (λ image. c.in_ok-fault-in-Ok.field-0 ≡ content_fault c.in-Ok.header (bytes_in c.args.area image)) c.in_ok-fault-in-Ok.ensures.fault h in
    broken_block _ c.in-Ok.header c.in-Some.fault (sym (c.in_ok-each_byte_is.ensures.value h) ∙ c.if-branch.false) (sym header ∙ c.in-Ok.is) (sym content ∙ c.in-Some.is)

pub returns-in-None-clause-state : goal.returns-in-None-clause-state
returns-in-None-clause-state g c = λ h.
    let first = c.in_ok-each_byte_is.ensures.after.read in
    let both = HasRead-then _ 1 0 _ _ _ first c.in_ok-header.ensures.after.read in
    let header = told_after first (λ image. c.in_ok-header.field-0 ≡ header_in (bytes_in c.args.area image)) c.in_ok-header.ensures.header h in
    let content = told_after both (λ image. c.in_ok-fault-in-Ok.field-0 ≡ content_fault c.in-Ok.header (bytes_in c.args.area image)) c.in_ok-fault-in-Ok.ensures.fault h in
    sound_block _ c.in-Ok.header (sym (c.in_ok-each_byte_is.ensures.value h) ∙ c.if-branch.false) (sym header ∙ c.in-Ok.is) (sym content ∙ c.in-None.is)
