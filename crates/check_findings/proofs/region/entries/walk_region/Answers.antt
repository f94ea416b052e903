use Rattle.std.proofs.Common.{refl}
use Rattle.check_findings.proofs.RegionLemmas.WalkSteps.{checking_start, checking_more, checking_end, checking_tail, checking_damage, checking_size, checking_absent}
use Rattle.check_findings.proofs.region.entries.walk_region.Goals as goal

pub loop-cell-init : goal.loop-cell-init
loop-cell-init g c = rw (c.new-findings.ensures.items, c.new-walk.ensures, c.new-count.ensures, c.size.ensures) (checking_start c.args.region c.args.paged.now c.requires)

pub loop-cell-preserved : goal.loop-cell-preserved
loop-cell-preserved g c =
    let is = c.in-Ok-Cell.field-0-is in
    let given = rw is at c.in-Ok-Cell.ensures.cell in
    let reads = rw is at c.in-Ok-Cell.ensures.calls in
    let answer = rw is at c.in-Ok-Cell.ensures.answer in
    let moved = rw is at c.in-Ok-Cell.ensures.moved in
    checking_more c.args.region c.loop-cell.walk c.loop-cell.findings.items c.loop-cell.count _ _ c.requires c.loop-cell.invariant c.in-Ok-Cell.cell _ _ _ _ _ _ _
    given reads refl c.in_ok-push_cell-in-Ok-Cell.ensures.calls refl answer moved c.with-count.ensures c.in_ok-push_cell-in-Ok-Cell.ensures.found

pub returns-in-Ok-Tail-clause-findings : goal.returns-in-Ok-Tail-clause-findings
returns-in-Ok-Tail-clause-findings g c =
    let is = c.in-Ok-Tail.field-0-is in
    checking_tail c.args.region c.loop-cell.walk c.loop-cell.findings.items c.loop-cell.count _ _ c.requires c.loop-cell.invariant _ _ _ _ _ (rw is at c.in-Ok-Tail.ensures.answer)
    (rw is at c.in-Ok-Tail.ensures.calls) c.in_ok-push_tail-in-Ok-Tail.ensures.found c.in_ok-counts_at_end-in-Ok-Tail.ensures

pub returns-in-Ok-End-clause-findings : goal.returns-in-Ok-End-clause-findings
returns-in-Ok-End-clause-findings g c =
    checking_end c.args.region c.loop-cell.walk c.loop-cell.findings.items c.loop-cell.count _ _ c.requires c.loop-cell.invariant _ _ (rw c.in-Ok-End.field-0-is at c.in-Ok-End.ensures.answer)
    c.in_ok-push-in-Ok-End.ensures.items c.in_ok-counts_at_end-in-Ok-End.ensures

pub returns-in-Err-Damaged-clause-findings : goal.returns-in-Err-Damaged-clause-findings
returns-in-Err-Damaged-clause-findings g c =
    checking_damage c.args.region c.loop-cell.walk c.loop-cell.findings.items c.loop-cell.count _ _ c.requires c.loop-cell.invariant _ _ _ _ (rw c.in-Err-Damaged.field-0-is at c.in-Err-Damaged.ensures.answer)
    (rw (c.in-Err-Damaged.at-is, c.in-Err-Damaged.kind-is) at c.in_ok-push-in-Err-Damaged.ensures.items) c.in_ok-counts_at_end-in-Err-Damaged.ensures

pub returns-in-Err-RegionShape-clause-findings : goal.returns-in-Err-RegionShape-clause-findings
returns-in-Err-RegionShape-clause-findings g c =
    checking_size c.args.region c.loop-cell.walk c.loop-cell.findings.items c.loop-cell.count _ _ c.requires c.loop-cell.invariant _ (rw c.in-Err-RegionShape.field-0-is at c.in-Err-RegionShape.ensures.answer) c.in_ok-push-in-Err-RegionShape.ensures.items

pub returns-in-Err-NotCbfs-clause-findings : goal.returns-in-Err-NotCbfs-clause-findings
returns-in-Err-NotCbfs-clause-findings g c =
    checking_absent c.args.region c.loop-cell.walk c.loop-cell.findings.items c.loop-cell.count _ _ c.requires c.loop-cell.invariant _ (rw c.in-Err-NotCbfs.field-0-is at c.in-Err-NotCbfs.ensures.answer) c.in_ok-push-in-Err-NotCbfs.ensures.items
