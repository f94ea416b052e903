use Rattle.std.proofs.Common.{◌≡◌, ◌∙◌, ◌+◌, ap, sym, arith}
use Rattle.flash_device.specs.Regions.{bytes_in}
use Rattle.flash_device.proofs.DeviceLemmas.{length-bytes_in}
use Rattle.board_structures.specs.MasterHeaders.{pointer_fault, pointer_in}
use Rattle.board_structures.proofs.HeaderLemmas.{broken_header, cut_off_header, header_told, sound_header, stray_pointer}
use Rattle.board_structures.proofs.Parts.{told_after}
use Rattle.board_structures.proofs.master_header.read_master_header.Goals as goal

pub returns-then-size-from-clause-state : goal.returns-then-size-from-clause-state
returns-then-size-from-clause-state g c = λ h.
    let len = length-bytes_in c.args.area c.args.paged.now.device.content c.requires.inside in
    cut_off_header c.args.area.start c.args.at _ (omega (arith, len, c.size-size.ensures, c.from.ensures, c.if-size-from.true))

pub returns-in-Some-clause-state : goal.returns-in-Some-clause-state
returns-in-Some-clause-state g c = λ h.
    let image = c.args.paged.now.device.content in
    let len = length-bytes_in c.args.area image c.requires.inside in
    let header = header_told image c.read_small.new.out c.args.area c.args.at (c.start.result + c.from-2.result) c.requires.inside (omega (arith, c.size-size.ensures, c.from.ensures, c.if-size-from.false)) (omega (arith, c.start.ensures, c.from-2.ensures)) (c.in_ok-read_small.ensures.read h) in
    broken_header c.args.area.start c.args.at _ c.in-Some.fault (omega (arith, len, c.size-size.ensures, c.from.ensures, c.if-size-from.false)) (sym header ∙ sym c.header_fault.ensures ∙ c.in-Some.is)

pub returns-in-Some-pointer_fault-clause-state : goal.returns-in-Some-pointer_fault-clause-state
returns-in-Some-pointer_fault-clause-state g c = λ h.
    let image = c.args.paged.now.device.content in
    let len = length-bytes_in c.args.area image c.requires.inside in
    let header = header_told image c.read_small.new.out c.args.area c.args.at (c.start.result + c.from-2.result) c.requires.inside (omega (arith, c.size-size.ensures, c.from.ensures, c.if-size-from.false)) (omega (arith, c.start.ensures, c.from-2.ensures)) (c.in_ok-read_small.ensures.read h) in
    let pointer = told_after c.in_ok-read_small.ensures.after.read (λ image. c.in_ok-pointer.pointer ≡ pointer_in (bytes_in c.args.area image)) c.in_ok-pointer.ensures.pointer h in
    stray_pointer c.args.area.start c.args.at _ c.in-Some-pointer_fault.fault (omega (arith, len, c.size-size.ensures, c.from.ensures, c.if-size-from.false)) (sym header ∙ sym c.header_fault.ensures ∙ c.in_default.is)
    (ap (λ n. pointer_fault c.args.at n (pointer_in (bytes_in c.args.area image))) (len ∙ sym c.size-size.ensures) ∙ ap (pointer_fault c.args.at c.size-size.result) (sym pointer) ∙ sym c.pointer_fault.ensures ∙ c.in-Some-pointer_fault.is)

pub returns-in-None-clause-state : goal.returns-in-None-clause-state
returns-in-None-clause-state g c = λ h.
    let image = c.args.paged.now.device.content in
    let len = length-bytes_in c.args.area image c.requires.inside in
    let header = header_told image c.read_small.new.out c.args.area c.args.at (c.start.result + c.from-2.result) c.requires.inside (omega (arith, c.size-size.ensures, c.from.ensures, c.if-size-from.false)) (omega (arith, c.start.ensures, c.from-2.ensures)) (c.in_ok-read_small.ensures.read h) in
    let pointer = told_after c.in_ok-read_small.ensures.after.read (λ image. c.in_ok-pointer.pointer ≡ pointer_in (bytes_in c.args.area image)) c.in_ok-pointer.ensures.pointer h in
    sound_header c.args.area.start c.args.at _ (omega (arith, len, c.size-size.ensures, c.from.ensures, c.if-size-from.false)) (sym header ∙ sym c.header_fault.ensures ∙ c.in_default.is)
    (ap (λ n. pointer_fault c.args.at n (pointer_in (bytes_in c.args.area image))) (len ∙ sym c.size-size.ensures) ∙ ap (pointer_fault c.args.at c.size-size.result) (sym pointer) ∙ sym c.pointer_fault.ensures ∙ c.in-None.is)
