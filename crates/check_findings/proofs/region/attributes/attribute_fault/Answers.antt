use Rattle.std.proofs.Common.{ap, ◌∙◌, ◌+◌, arith}
use Rattle.flash_device.specs.Regions.{bytes_in}
use Rattle.cbfs_walk.proofs.ReadSequences.{Passes-answers}
use Rattle.check_findings.proofs.RegionLemmas.AttributeLists.{cell_list, fault_to, lies_between}
use Rattle.check_findings.proofs.region.attributes.attribute_fault.Goals as goal

pub listed_fault-requires : goal.listed_fault-requires
listed_fault-requires g c =
    let l = lies_between c.args.region.size c.args.cell.now c.requires.cell in
    record { reach = record { region = c.requires.region; inside = omega (arith, l.inside) }; order = omega (arith, l.order) }

pub returns-clause-calls : goal.returns-clause-calls
returns-clause-calls g c = Passes-answers c.listed_fault.ensures.passed (omega arith)

pub returns-clause-fault : goal.returns-clause-fault
returns-clause-fault g c = λ h stands.
    fault_to _ _ _
    (cell_list (bytes_in c.args.region c.args.paged.now.device.content) c.args.cell.now _ _ (ap (λ n. c.args.cell.now.at + n) (c.from.ensures ∙ c.name_end.ensures)) (ap (λ n. c.args.cell.now.at + n) c.from-2.ensures) stands)
    (c.listed_fault.ensures.value h)
