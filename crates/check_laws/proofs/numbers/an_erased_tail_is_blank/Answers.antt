use Rattle.std.proofs.Common.{◌≡◌, [], ◌∷◌, ◌++◌, replicate, refl}
use Rattle.check_findings.specs.RegionFindings.{tail_findings}
use Rattle.check_findings.specs.declared.region.finding.RegionFinding.TheVariants.{Tail}
use Rattle.check_laws.proofs.numbers.an_erased_tail_is_blank.Goals as goal

erased : tail_findings 64 (replicate 128 0xff) ≡ Tail 64 ∷ []
unfolding tail_findings
erased = refl

other_byte : tail_findings 64 (replicate 100 0xff ++ 0x55 ∷ replicate 27 0xff) ≡ Tail 64 ∷ [] → ⊥
unfolding tail_findings
other_byte same = cc

pub returns-clause-blank : goal.returns-clause-blank
returns-clause-blank c = (c.blank_tails_are_known.ensures 64 (replicate 128 0xff)).1 erased

pub returns-clause-filled : goal.returns-clause-filled
returns-clause-filled c = λ blank. other_byte ((c.blank_tails_are_known.ensures 64 (replicate 100 0xff ++ 0x55 ∷ replicate 27 0xff)).0 blank)
