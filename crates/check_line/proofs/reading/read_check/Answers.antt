use Rattle.std.proofs.Common.{inl, refl}
use Rattle.check_line.proofs.reading.read_check.Goals as goal

pub returns-in_ok-line_of-in-Ok : goal.returns-in_ok-line_of-in-Ok
returns-in_ok-line_of-in-Ok c =
    let line = c.in_ok-line_of-in-Ok.ensures in
    rw (← c.in-None.ensures, ← c.in-Ok.ensures.1) (inl (c.in-Ok.ensures.0, (line.0, (_, refl, line.1))))
