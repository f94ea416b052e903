use Rattle.std.proofs.Common.{◌≡◌, ◌∙◌, ◌+◌, ◌-◌, ◌*◌, ◌/◌, length, sym, arith}
use Rattle.flash_device.proofs.WindowLemmas.{HasRead-then, HasRead-within}
use Rattle.board_structures.specs.FirmwareTables.{entry_at, entry_result}
use Rattle.board_structures.proofs.Entries.{bad_entry, good_entry, no_entry}
use Rattle.board_structures.proofs.Parts.{told_after}
use Rattle.board_structures.proofs.firmware_table.check_entries.Goals as goal

pub returns-in-Err-clause-fault : goal.returns-in-Err-clause-fault
returns-in-Err-clause-fault g c = λ h.
    let had = c.loop-number.invariant in
    let place = c.args.place in
    let image = c.args.paged.now.device.content in
    let number = c.loop-number.number in
    let left = c.loop-number.left in
    let shown = told_after had.read (λ image. c.in_ok-len.field-0 ≡ entry_result left image (entry_at (place + 16 * number) image)) (rw c.from.ensures at c.in_ok-len.ensures.update) h in
    sym (bad_entry c.args.count number left place image c.in-Err.fault c.loop-number-test.true (sym shown ∙ c.in-Err.is)) ∙ had.rest h

pub loop-number-preserved : goal.loop-number-preserved
loop-number-preserved g c =
    let had = c.loop-number.invariant in
    let place = c.args.place in
    let image = c.args.paged.now.device.content in
    let number = c.loop-number.number in
    let left = c.loop-number.left in
    let n = c.in-Ok.len in
    let all = length image in
    let cost = rw c.in-Ok.is at c.in_ok-len.ensures.cost in
    record {
      some = omega arith;
      left = omega (arith, had.left);
      read = HasRead-within _ (3 * (number + 1 - 1) + (all - (left - n)) / 4096) 0 _ _ (omega (arith, had.some, had.left, cost.0)) (HasRead-then _ _ 0 _ _ _ had.read cost.1);
      rest = λ h.
          let shown = told_after had.read (λ image. c.in_ok-len.field-0 ≡ entry_result left image (entry_at (place + 16 * number) image)) (rw c.from.ensures at c.in_ok-len.ensures.update) h in
          sym (good_entry c.args.count number left place image n c.loop-number-test.true (sym shown ∙ c.in-Ok.is)) ∙ had.rest h;
    }

pub returns-clause-fault : goal.returns-clause-fault
returns-clause-fault g c = λ h.
    sym (no_entry c.args.count c.loop-number.number c.loop-number.left c.args.place c.args.paged.now.device.content (omega (arith, c.loop-number-test.false))) ∙ c.loop-number.invariant.rest h
