use Rattle.std.proofs.Common.{refl}
use Rattle.check_digests.proofs.WalkSteps.{digests_ended, digests_more, digests_start}
use Rattle.check_digests.proofs.region.push_region.Goals as goal

pub loop-cell-init : goal.loop-cell-init
loop-cell-init g c = rw c.new-walk.ensures (digests_start c.args.region c.args.all.now.items c.args.paged.now)

pub loop-cell-preserved : goal.loop-cell-preserved
loop-cell-preserved g c =
    let is = c.in-Ok-Cell.field-0-is in
    let given = rw is at c.in-Ok-Cell.ensures.cell in
    let reads = rw is at c.in-Ok-Cell.ensures.calls in
    let answer = rw is at c.in-Ok-Cell.ensures.answer in
    let moved = rw is at c.in-Ok-Cell.ensures.moved in
    digests_more c.args.region c.loop-cell.walk _ c.loop-cell.all.items _ _ c.requires c.loop-cell.invariant c.in-Ok-Cell.cell _ _ _ _ _ _
    given reads refl c.in_ok-push_digests-in-Ok-Cell.ensures.calls refl answer moved c.in_ok-push_digests-in-Ok-Cell.ensures.digests

pub returns-in-Ok-Tail-clause-digests : goal.returns-in-Ok-Tail-clause-digests
returns-in-Ok-Tail-clause-digests g c =
    let answer = rw c.in-Ok-Tail.field-0-is at c.in-Ok-Tail.ensures.answer in
    digests_ended c.args.region c.loop-cell.walk _ c.loop-cell.all.items _ _ c.requires c.loop-cell.invariant _ (λ c e. absurd cc) (λ e. absurd cc) answer

pub returns-in-Ok-End-clause-digests : goal.returns-in-Ok-End-clause-digests
returns-in-Ok-End-clause-digests g c =
    let answer = rw c.in-Ok-End.field-0-is at c.in-Ok-End.ensures.answer in
    digests_ended c.args.region c.loop-cell.walk _ c.loop-cell.all.items _ _ c.requires c.loop-cell.invariant _ (λ c e. absurd cc) (λ e. absurd cc) answer

pub returns-in_default-clause-digests : goal.returns-in_default-clause-digests
returns-in_default-clause-digests g c =
    let device = c.in_default.not-Device in
    digests_ended c.args.region c.loop-cell.walk _ c.loop-cell.all.items _ _ c.requires c.loop-cell.invariant _ (λ c e. absurd cc) (λ e. absurd (device cc)) c.in-Err.ensures.answer
