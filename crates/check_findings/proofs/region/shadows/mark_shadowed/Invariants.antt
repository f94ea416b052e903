use Rattle.std.proofs.Common.{◌≡◌, take}
use Rattle.std.specs.List.{fold}
use Rattle.check_findings.proofs.RegionLemmas.Marks.{Marking, mark_at}
use Rattle.check_findings.proofs.region.shadows.mark_shadowed.Given as goal

abbrev pub invariant-loop-i : goal.invariant-loop-i
invariant-loop-i l = Marking l.names.keys l.all l.indices.items l.i

abbrev pub invariant-loop-i-2 : goal.invariant-loop-i-2
invariant-loop-i-2 l = l.findings.items ≡ fold mark_at l.initial.findings.items (take l.i-index l.i-items)
