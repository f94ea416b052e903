use Rattle.std.proofs.Common.{refl}
use Rattle.std.proofs.lemmas.Result.{err_from_is_err_and}
use Rattle.cbfs_anchor.proofs.Gathering.{gathering_start, gathering_more, gathering_refused, gathered, gathering_err}
use Rattle.cbfs_anchor.proofs.metadata.hash_metadata.Goals as goal

pub loop-cell-init : goal.loop-cell-init
loop-cell-init g c = rw c.new-walk.ensures (gathering_start c.args.demand c.args.algorithm c.args.region _ _ c.new-hasher.ensures.algorithm c.new-hasher.ensures.empty)

pub loop-cell-preserved : goal.loop-cell-preserved
loop-cell-preserved g c =
    gathering_more c.args.demand c.args.algorithm c.args.region c.loop-cell.walk c.loop-cell.hasher _ _ c.requires c.loop-cell.invariant c.in-Cell.cell _ _
    (rw c.in-Cell.is at c.in_ok-cell.ensures.cell) (rw c.in-Cell.is at c.in_ok-cell.ensures.calls) refl (rw c.in-Cell.is at c.in_ok-cell.ensures.answer)
    c.in_ok-hash_cell-in-Cell.field-0 _ _ _ c.in_ok-hash_cell-in-Cell.ensures.calls (rw c.in-Cell.is at c.in_ok-cell.ensures.moved) c.in_ok-hash_cell-in-Cell.ensures.algorithm c.in_ok-hash_cell-in-Cell.ensures.hashed

pub returns-in_err-hash_cell-in-Cell : goal.returns-in_err-hash_cell-in-Cell
returns-in_err-hash_cell-in-Cell g c =
    let told = err_from_is_err_and c.from_residual-in_err-hash_cell-in-Cell.result c.from_residual-in_err-hash_cell-in-Cell.ensures.1 in
    let refused =
    gathering_refused c.args.demand c.args.algorithm c.args.region c.loop-cell.walk c.loop-cell.hasher _ _ c.requires c.loop-cell.invariant c.in-Cell.cell _ _
    (rw c.in-Cell.is at c.in_ok-cell.ensures.cell) (rw c.in-Cell.is at c.in_ok-cell.ensures.calls) refl (rw c.in-Cell.is at c.in_ok-cell.ensures.answer)
    (Unit {0}) c.in_err-hash_cell-in-Cell.field-0.0 c.hash_cell.new.hasher c.hash_cell.new.paged c.in_err-hash_cell-in-Cell.ensures.calls c.in_err-hash_cell-in-Cell.ensures.hashed in
    rw (told.1, told.2) (record { calls = refused.0; algorithm = tt; hashed = refused.1 })

pub returns-in_err-cell : goal.returns-in_err-cell
returns-in_err-cell g c =
    let told = err_from_is_err_and c.from_residual.result c.from_residual.ensures.1 in
    let refused = gathering_err c.args.demand c.args.algorithm c.args.region c.loop-cell.walk c.loop-cell.hasher _ _ c.requires c.loop-cell.invariant c.in_err-cell.field-0.0 _ c.in_err-cell.ensures.calls c.in_err-cell.ensures.answer in
    rw (told.1, told.2) (record { calls = refused.0; algorithm = tt; hashed = refused.1 })

pub returns-in-Tail : goal.returns-in-Tail
returns-in-Tail g c =
    let all = gathered c.args.demand c.args.algorithm c.args.region c.loop-cell.walk c.loop-cell.hasher _ _ c.requires c.loop-cell.invariant _ c.in-Tail.is _ c.in_ok-cell.ensures.calls c.in_ok-cell.ensures.answer in
    record { calls = all.0; algorithm = c.loop-cell.invariant.algorithm; hashed = all.1 }
