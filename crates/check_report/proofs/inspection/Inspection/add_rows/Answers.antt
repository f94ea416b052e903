use Rattle.std.proofs.lemmas.List.{append-nil}
use Rattle.check_report.proofs.SoundRows.{adds_after, adds_before, adds_failed}
use Rattle.check_report.proofs.inspection.Inspection.add_rows.Goals as goal

pub returns-in-Some : goal.returns-in-Some
returns-in-Some g c =
    let found = adds_after (rw c.deref.ensures.value at c.in_ok-add_findings.ensures) (rw c.deref-2.ensures.value at c.in_ok-add_needs.ensures) in
    let all = adds_after found (rw c.deref-3.ensures.value at c.in_ok-add_board.ensures) in
    rw c.in-Some.is (adds_after all (rw c.deref-in-Some.ensures.value at c.add_changes.ensures))

pub returns-in-None : goal.returns-in-None
returns-in-None g c =
    let found = adds_after (rw c.deref.ensures.value at c.in_ok-add_findings.ensures) (rw c.deref-2.ensures.value at c.in_ok-add_needs.ensures) in
    let all = adds_after found (rw c.deref-3.ensures.value at c.in_ok-add_board.ensures) in
    rw (c.in-None.is, append-nil) all

pub returns-in_err-add_findings : goal.returns-in_err-add_findings
returns-in_err-add_findings g c = adds_failed c.from_residual.ensures.1 (adds_before _ (adds_before _ (adds_before _ (rw c.deref.ensures.value at c.in_err-add_findings.ensures))))

pub returns-in_err-add_needs : goal.returns-in_err-add_needs
returns-in_err-add_needs g c = adds_failed c.from_residual-in_err-add_needs.ensures.1
    (adds_before _ (adds_before _ (adds_after (rw c.deref.ensures.value at c.in_ok-add_findings.ensures) (rw c.deref-2.ensures.value at c.in_err-add_needs.ensures))))

pub returns-in_err-add_board : goal.returns-in_err-add_board
returns-in_err-add_board g c =
    let found = adds_after (rw c.deref.ensures.value at c.in_ok-add_findings.ensures) (rw c.deref-2.ensures.value at c.in_ok-add_needs.ensures) in
    adds_failed c.from_residual-in_err-add_board.ensures.1 (adds_before _ (adds_after found (rw c.deref-3.ensures.value at c.in_err-add_board.ensures)))
