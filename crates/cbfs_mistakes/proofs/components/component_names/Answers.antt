use Rattle.std.proofs.Common.{refl}
use Rattle.cbfs_mistakes.proofs.ComponentNames.{naming_start, naming_more, naming_ends}
use Rattle.cbfs_mistakes.proofs.components.component_names.Goals as goal

pub loop-cell-init : goal.loop-cell-init
loop-cell-init g c = rw c.new-walk.ensures (naming_start c.args.region c.new-names.result.items c.args.paged.now c.new-names.ensures.items)

pub loop-cell-preserved : goal.loop-cell-preserved
loop-cell-preserved g c =
    let is = c.in-Ok-Cell.field-0-is in
    let given = rw is at c.in-Ok-Cell.ensures.cell in
    let reads = rw is at c.in-Ok-Cell.ensures.calls in
    let answer = rw is at c.in-Ok-Cell.ensures.answer in
    let moved = rw is at c.in-Ok-Cell.ensures.moved in
    naming_more c.args.region c.loop-cell.walk c.loop-cell.names.items _ _ c.requires c.loop-cell.invariant c.in-Ok-Cell.cell _ _ _ _ _
    given reads refl c.in_ok-push_cell_name-in-Ok-Cell.ensures.calls answer moved c.in_ok-push_cell_name-in-Ok-Cell.ensures.named

pub returns-in-Ok-Tail-clause-names : goal.returns-in-Ok-Tail-clause-names
returns-in-Ok-Tail-clause-names g c =
    let answer = rw c.in-Ok-Tail.field-0-is at c.in-Ok-Tail.ensures.answer in
    naming_ends c.args.region c.loop-cell.walk c.loop-cell.names.items _ _ c.requires c.loop-cell.invariant _ (λ c e. absurd cc) (λ e. absurd cc) answer

pub returns-in-Ok-End-clause-names : goal.returns-in-Ok-End-clause-names
returns-in-Ok-End-clause-names g c =
    let answer = rw c.in-Ok-End.field-0-is at c.in-Ok-End.ensures.answer in
    naming_ends c.args.region c.loop-cell.walk c.loop-cell.names.items _ _ c.requires c.loop-cell.invariant _ (λ c e. absurd cc) (λ e. absurd cc) answer

pub returns-in_default-clause-names : goal.returns-in_default-clause-names
returns-in_default-clause-names g c =
    let device = c.in_default.not-Device in
    naming_ends c.args.region c.loop-cell.walk c.loop-cell.names.items _ _ c.requires c.loop-cell.invariant _ (λ c e. absurd cc) (λ e. absurd (device cc)) c.in-Err.ensures.answer
