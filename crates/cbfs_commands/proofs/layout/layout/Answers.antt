use Rattle.std.proofs.Common.{◌+◌, ◌/◌, arith, length, refl}
use Rattle.cbfs_commands.specs.Outcomes.{layout}
use Rattle.cbfs_commands.specs.Outcomes.{shows}
use Rattle.cbfs_commands.proofs.Areas.{layout-is, rows_of}
use Rattle.cbfs_commands.proofs.OutputParts.{so_far-ends, so_far-more, so_far-none, printout-part, printout-put}
use Rattle.cbfs_commands.proofs.layout.layout.Goals as goal

pub returns-in_err-put_all : goal.returns-in_err-put_all
returns-in_err-put_all g c =
    let map = c.in-Some.map in
    let put = c.in_err-put_all.ensures in
    let stopped = printout-part c.in_ok-map.ensures.calls.read _ put.cause (rw (c.as_slice.ensures.value, c.set_map_row.ensures) at put.part) c.from_residual-in_err-put_all.ensures.1 (λ image. shows (rows_of image map.head.nareas (map.at + 56))) in
    so_far-ends (so_far-none 0 layout layout _ _ (λ image. refl)) _ stopped (λ h. layout-is _ map (rw c.in-Some.is at (c.in_ok-map.ensures.found h))) (omega arith)

pub returns : goal.returns
returns g c =
    let map = c.in-Some.map in
    let put = c.in_ok-put_all.ensures in
    let row = printout-put c.in_ok-map.ensures.calls.read put.faults (rw (c.as_slice.ensures.value, c.set_map_row.ensures) at put.put) in
    let listed = so_far-more (so_far-none 0 layout layout _ _ (λ image. refl)) (length c.args.paged.now.device.content / 2 + 8) (λ image. shows (rows_of image map.head.nareas (map.at + 56))) row
    (λ h. layout-is _ map (rw c.in-Some.is at (c.in_ok-map.ensures.found h))) (omega arith) in
    so_far-ends listed _ c.list_areas.ensures (λ h. refl) (omega (arith, rw c.in-Some.is at c.in_ok-map.ensures.fits))
