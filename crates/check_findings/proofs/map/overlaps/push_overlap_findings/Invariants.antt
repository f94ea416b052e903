use Rattle.std.proofs.Common.{◌≡◌, ◌++◌, drop}
use Rattle.std.specs.List.{find, flat_map}
use Rattle.check_findings.specs.MapFindings.{overlap}
use Rattle.std.specs.Prelude.{option_map}
use Rattle.std.specs.Option.{option_to_list}
use Rattle.check_findings.specs.declared.map.finding.MapFinding.TheVariants.{Overlap}
use Rattle.check_findings.proofs.map.overlaps.push_overlap_findings.Given as goal

abbrev pub invariant-loop-a : goal.invariant-loop-a
invariant-loop-a l = l.findings.items ++ flat_map (λ a. option_to_list (option_map (Overlap a) (find (overlap a) l.areas))) (drop l.a-index l.areas) ≡ l.initial.findings.items ++ flat_map (λ a. option_to_list (option_map (Overlap a) (find (overlap a) l.areas))) l.areas
