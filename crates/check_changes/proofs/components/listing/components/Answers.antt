use Rattle.std.proofs.Common.{refl}
use Rattle.check_changes.proofs.ComponentLemmas.ListingLemmas.{listing_start, listing_more, listing_lists}
use Rattle.check_changes.proofs.components.listing.components.Goals as goal

pub loop-cell-init : goal.loop-cell-init
loop-cell-init g c = rw c.new-walk.ensures (listing_start c.args.region c.new-all.result c.args.paged.now c.new-all.ensures.items)

pub loop-cell-preserved : goal.loop-cell-preserved
loop-cell-preserved g c =
    let is = c.in-Ok-Cell.field-0-is in
    let given = rw is at c.in-Ok-Cell.ensures.cell in
    let reads = rw is at c.in-Ok-Cell.ensures.calls in
    let answer = rw is at c.in-Ok-Cell.ensures.answer in
    let moved = rw is at c.in-Ok-Cell.ensures.moved in
    listing_more c.args.region c.loop-cell.walk c.loop-cell.all _ _ c.requires c.loop-cell.invariant c.in-Ok-Cell.cell _ _ _ _ _
    given reads refl c.in_ok-list_cell-in-Ok-Cell.ensures.calls answer moved c.in_ok-list_cell-in-Ok-Cell.ensures.cells c.in_ok-list_cell-in-Ok-Cell.ensures.room c.in_ok-list_cell-in-Ok-Cell.ensures.listed

pub returns-in-Ok-Tail-clause-lists : goal.returns-in-Ok-Tail-clause-lists
returns-in-Ok-Tail-clause-lists g c =
    let answer = rw c.in-Ok-Tail.field-0-is at c.in-Ok-Tail.ensures.answer in
    listing_lists c.args.region c.loop-cell.walk c.loop-cell.all _ _ c.requires c.loop-cell.invariant _ (λ c e. absurd cc) (λ e. absurd cc) answer

pub returns-in-Ok-End-clause-lists : goal.returns-in-Ok-End-clause-lists
returns-in-Ok-End-clause-lists g c =
    let answer = rw c.in-Ok-End.field-0-is at c.in-Ok-End.ensures.answer in
    listing_lists c.args.region c.loop-cell.walk c.loop-cell.all _ _ c.requires c.loop-cell.invariant _ (λ c e. absurd cc) (λ e. absurd cc) answer

pub returns-in_default-clause-lists : goal.returns-in_default-clause-lists
returns-in_default-clause-lists g c =
    let device = c.in_default.not-Device in
    listing_lists c.args.region c.loop-cell.walk c.loop-cell.all _ _ c.requires c.loop-cell.invariant _ (λ c e. absurd cc) (λ e. absurd (device cc)) c.in-Err.ensures.answer
