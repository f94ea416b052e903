use Rattle.std.proofs.Common.{◌≡◌, [], refl, rules}
use Rattle.check_report.specs.Reports.{listed_of}
use Rattle.check_report.proofs.PrinterEffects.{prints_none}
use Rattle.check_report.proofs.component_list.list_hashed_region.Goals as goal

pub returns-in-Region-clause-lines : goal.returns-in-Region-clause-lines
returns-in-Region-clause-lines g c =
    rw c.in-Region.is (rw (c.text.ensures.value, c.as_slice.ensures) at c.list_hashed_area.ensures.lines)

pub returns-in_default : goal.returns-in_default
returns-in_default g c =
    let none : listed_of c.args.finding.now ≡ [] = search rules in
    record { lines = rw none (prints_none g.W.Sink _); rest = rw none refl }
