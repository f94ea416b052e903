use Rattle.std.proofs.Common.{ap, sym, ◌∙◌}
use Rattle.flash_format.specs.declared.head.Head.{Head}
use Rattle.flash_format.specs.Components.{cell_attributes}
use Rattle.flash_device.specs.Regions.{bytes_in}
use Rattle.cbfs_walk.specs.Cells.{cell_in}
use Rattle.cbfs_anchor.specs.Metadata.{fault_by, stored_hash}
use Rattle.cbfs_anchor.proofs.Hashes.{head_here}
use Rattle.cbfs_anchor.proofs.metadata.component_fault.Goals as goal

pub returns-clause-fault : goal.returns-clause-fault
returns-clause-fault g c = λ h stands.
    let its = cell_in (bytes_in c.args.region c.args.paged.now.device.content) c.args.cell.now in
    let at = c.args.cell.now.at in
    c.fault_of.ensures.fault
    ∙ ap (λ o. fault_by c.args.demand c.args.algorithm at c.args.cell.now.head.kind c.args.cell.now.head.offset o) (c.in_ok-hash.ensures.hash h stands)
    ∙ sym (ap (λ (k : Head). fault_by c.args.demand c.args.algorithm at k.kind k.offset (stored_hash (cell_attributes its))) (head_here _ c.args.region.size c.args.cell.now c.requires.cell.checks stands))
