use Rattle.std.proofs.Common.{◌≡◌, [], refl, rules}
use Rattle.check_report.specs.Reports.{ListedComponent, listed_in}
use Rattle.check_report.proofs.HashedLines.{hashed_one, hashed_without}
use Rattle.check_report.proofs.PrinterEffects.{lines_failed, prints_none}
use Rattle.check_report.proofs.component_list.list_hashed_finding.Goals as goal

pub returns-in_default : goal.returns-in_default
returns-in_default g c =
    let none : listed_in c.args.area.now c.args.finding.now ≡ [] = search rules in
    record { lines = rw none (prints_none g.W.Sink _); rest = rw none refl }

pub returns-in_default-split_first-clause-lines : goal.returns-in_default-split_first-clause-lines
returns-in_default-split_first-clause-lines g c =
    let none = hashed_without (listed_in c.args.area.now c.args.finding.now) c.args.digests.now.now c.in_default-split_first.ensures.cases in
    rw none (prints_none g.W.Sink _)

pub returns-in_err-print_hashed-clause-lines : goal.returns-in_err-print_hashed-clause-lines
returns-in_err-print_hashed-clause-lines g c =
    let component : ListedComponent = record { area = c.args.area.now; at = c.in-Component.at; name = c.in-Component.name; content = c.in-Component.content } in
    let line = hashed_one component c.args.digests.now.now c.in-Some.rest.now c.in-Some.first.now c.in-Some.ensures.cases.0 in
    lines_failed g.W.Sink _ _ _ _ _ c.from_residual.ensures.1 (rw (c.in-Component.is, line) (rw c.as_slice.ensures at c.in_err-print_hashed.ensures))

pub returns-clause-lines : goal.returns-clause-lines
returns-clause-lines g c =
    let component : ListedComponent = record { area = c.args.area.now; at = c.in-Component.at; name = c.in-Component.name; content = c.in-Component.content } in
    let line = hashed_one component c.args.digests.now.now c.in-Some.rest.now c.in-Some.first.now c.in-Some.ensures.cases.0 in
    rw (c.in-Component.is, line) (rw c.as_slice.ensures at c.in_ok-print_hashed.ensures)
