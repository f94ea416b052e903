use Rattle.std.proofs.lemmas.Grind.{common_steps}
use Rattle.std.proofs.Common.{◌+◌, inl, refl, arith}
use Rattle.cbfs_commands.proofs.Areas.{every, none_left, one_less, rows_left}
use Rattle.cbfs_commands.proofs.OutputParts.{so_far-ends, so_far-more, so_far-none, printout-none, printout-part, printout-put, printout-refusal}
use Rattle.cbfs_commands.proofs.layout.list_areas.Goals as goal

pub loop-i-init : goal.loop-i-init
loop-i-init g c = let map = c.args.map.now in so_far-none 0 _ _ _ _ (λ image. every image (map.at + 56) map.head.nareas)

pub loop-i-preserved : goal.loop-i-preserved
loop-i-preserved g c =
    let map = c.args.map.now in
    let listed = c.in_ok-listed.ensures in
    let put = c.in_ok-put_all.ensures in
    let row = printout-put listed.calls.read put.faults (rw (c.as_slice.ensures.value, c.set_area_row.ensures) at put.put) in
    so_far-more c.loop-i.invariant _ _ row (λ h. one_less _ (map.at + 56) map.head.nareas c.loop-i.i _ c.loop-i-test.true (listed.area h)) (omega arith)

pub returns-in_err-put_all : goal.returns-in_err-put_all
returns-in_err-put_all g c =
    let map = c.args.map.now in
    let listed = c.in_ok-listed.ensures in
    let put = c.in_err-put_all.ensures in
    let stopped = printout-part listed.calls.read _ put.cause (rw (c.as_slice.ensures.value, c.set_area_row.ensures) at put.part) c.from_residual-in_err-put_all.ensures.1 (λ image. rows_left image (map.at + 56) map.head.nareas (c.loop-i.i + 1)) in
    so_far-ends c.loop-i.invariant _ stopped (λ h. one_less _ (map.at + 56) map.head.nareas c.loop-i.i _ c.loop-i-test.true (listed.area h)) (omega (arith, c.loop-i-test.true))

pub returns-in_err-listed : goal.returns-in_err-listed
returns-in_err-listed g c =
    let map = c.args.map.now in
    let failed = printout-refusal (λ image. rows_left image (map.at + 56) map.head.nareas c.loop-i.i) c.from_residual.ensures.1 c.in_err-listed.ensures.calls.read (λ e. cc) (λ e. cc) (λ h. inl refl) in
    so_far-ends c.loop-i.invariant _ failed (λ h. refl) (omega (arith, c.loop-i-test.true))

pub returns : goal.returns
returns g c = grind (arith, common_steps, none_left, printout-none, so_far-ends)
