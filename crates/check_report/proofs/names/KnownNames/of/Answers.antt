use Rattle.std.proofs.Common.{[], ap, Bool}
use Rattle.check_findings.specs.declared.areas.NumberedArea.{NumberedArea}
use Rattle.check_report.proofs.names.KnownNames.of.Goals as goal

pub invariant_of-result : goal.invariant_of-result
invariant_of-result c = record {
  same = λ area. ap (λ (has : NumberedArea → Bool). has area) (rw c.deref.ensures.value at (c.in_ok-add_all.ensures [] c.new-set.ensures));
}
