use Rattle.std.proofs.Common.{append_assoc, arith}
use Rattle.std.proofs.lemmas.Grind.{common_steps}
use Rattle.check_findings.proofs.region.entry_counts.EntryCounts.counts_at_end.Goals as goal

pub returns : goal.returns
returns c = grind (arith, common_steps, append_assoc, c.in_ok-push.ensures.items, c.in_ok-push-2.ensures.items, c.in_ok-push-3.ensures.items, c.usable_room.ensures, c.checked_sub-largest.ensures)
