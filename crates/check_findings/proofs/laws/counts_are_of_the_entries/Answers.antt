use Rattle.check_findings.proofs.RegionLemmas.Counts.{counts}
use Rattle.check_findings.proofs.laws.counts_are_of_the_entries.Goals as goal

pub returns : goal.returns
returns c = counts
