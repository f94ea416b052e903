use Rattle.std.proofs.Common.{refl}
use Rattle.board_findings.proofs.PlacedComponents.{placing_start, placing_more, placing_all}
use Rattle.board_findings.proofs.components.placed_in.Goals as goal

pub loop-cell-init : goal.loop-cell-init
loop-cell-init g c = rw c.new-walk.ensures (placing_start c.args.region c.new-components.result.items c.args.paged.now c.new-components.ensures.items)

pub loop-cell-preserved : goal.loop-cell-preserved
loop-cell-preserved g c =
    let is = c.in-Ok-Cell.field-0-is in
    let given = rw is at c.in-Ok-Cell.ensures.cell in
    let reads = rw is at c.in-Ok-Cell.ensures.calls in
    let answer = rw is at c.in-Ok-Cell.ensures.answer in
    let moved = rw is at c.in-Ok-Cell.ensures.moved in
    placing_more c.args.region c.loop-cell.walk c.loop-cell.components.items _ _ c.requires c.loop-cell.invariant c.in-Ok-Cell.cell _ _ _ _
    given reads refl answer moved c.in_ok-push_placed-in-Ok-Cell.ensures

pub returns-in-Ok-Tail-clause-found : goal.returns-in-Ok-Tail-clause-found
returns-in-Ok-Tail-clause-found g c = λ h.
    let answer = rw c.in-Ok-Tail.field-0-is at c.in-Ok-Tail.ensures.answer in
    placing_all c.args.region c.loop-cell.walk c.loop-cell.components.items _ _ c.requires c.loop-cell.invariant _ (λ c e. absurd cc) (λ e. absurd cc) answer h

pub returns-in-Ok-End-clause-found : goal.returns-in-Ok-End-clause-found
returns-in-Ok-End-clause-found g c = λ h.
    let answer = rw c.in-Ok-End.field-0-is at c.in-Ok-End.ensures.answer in
    placing_all c.args.region c.loop-cell.walk c.loop-cell.components.items _ _ c.requires c.loop-cell.invariant _ (λ c e. absurd cc) (λ e. absurd cc) answer h

pub returns-in_default-clause-found : goal.returns-in_default-clause-found
returns-in_default-clause-found g c = λ h.
    let device = c.in_default.not-Device in
    placing_all c.args.region c.loop-cell.walk c.loop-cell.components.items _ _ c.requires c.loop-cell.invariant _ (λ c e. absurd cc) (λ e. absurd (device cc)) c.in-Err.ensures.answer h
