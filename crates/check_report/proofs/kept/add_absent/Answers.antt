use Rattle.check_report.proofs.SoundRows.{adds_after, adds_before, adds_failed}
use Rattle.check_report.proofs.kept.add_absent.Goals as goal

pub returns : goal.returns
returns g c = adds_after c.in_ok-add_missing.ensures
    (rw (c.lacks_preserved.ensures, c.row-none.ensures, c.of_finding-verdict.ensures, c.is_strict_without_names.ensures) at c.add_if.ensures)

pub returns-in_err-add_missing : goal.returns-in_err-add_missing
returns-in_err-add_missing g c = adds_failed c.from_residual.ensures.1 (adds_before _ c.in_err-add_missing.ensures)
