use Rattle.std.proofs.Common.{refl, sym}
use Rattle.check_report.proofs.TableLines.{length_found, length_past}
use Rattle.check_report.proofs.rows.table.length_at.Goals as goal

pub returns-in-Some : goal.returns-in-Some
returns-in-Some c =
    let found = c.in-Some.ensures.lookup in
    rw (length_found (λ cell. cell.items) c.args.cells.now c.args.i c.in-Some.cell.now found.3.0, ← found.1, ← c.as_slice.ensures.value) refl

pub returns-in-None : goal.returns-in-None
returns-in-None c = sym (length_past (λ cell. cell.items) c.args.cells.now c.args.i c.in-None.ensures.lookup.3)
