use Rattle.std.proofs.Common.{◌≡◌, drop}
use Rattle.check_report.specs.SlotChanges.{signed_in}
use Rattle.check_report.proofs.slot_changes.signed_in.Given as goal

abbrev pub invariant-loop-finding : goal.invariant-loop-finding
invariant-loop-finding l =
    signed_in l.wanted (drop l.finding-index l.findings) ≡ signed_in l.wanted l.findings
