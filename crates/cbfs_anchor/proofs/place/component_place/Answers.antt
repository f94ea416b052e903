use Rattle.std.proofs.Common.{inr}
use Rattle.cbfs_anchor.proofs.Hashes.{head_here}
use Rattle.cbfs_anchor.proofs.Places.{component_placed}
use Rattle.cbfs_anchor.proofs.place.component_place.Goals as goal

pub returns-in-Some-within-clause-place : goal.returns-in-Some-within-clause-place
returns-in-Some-within-clause-place g c = λ h.
    let is = rw c.in-Some.is at c.in_ok-cell.ensures.cell in
    let stands = rw c.in-Some.is at (c.in_ok-cell.ensures.stands h) in
    inr (component_placed c.args.map c.args.coreboot c.in-Some-within.anchor _ c.in-Some.cell (head_here _ c.args.coreboot.size c.in-Some.cell is.0.checks stands) c.if-cell-ne-BOOTBLOCK.false (let there = c.in-Some-within.ensures.0 in let start = c.start.ensures in let offset = c.from.ensures in let len = c.from-2.ensures in cc)
    (rw c.in-Some.is at (c.in_ok-cell.ensures.answer h)))
