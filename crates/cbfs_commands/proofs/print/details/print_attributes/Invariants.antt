use Rattle.std.proofs.Common.{◌≡◌, ◌-◌, ◌/◌, ◌≤◌, List, Some}
use Rattle.flash_format.specs.Entry.{Attribute}
use Rattle.flash_format.specs.Components.{cell_attributes}
use Rattle.flash_device.specs.Pages.{OnHonestIn}
use Rattle.cbfs_walk.specs.AttrWalks.{attributes_left}
use Rattle.flash_device.specs.Regions.{bytes_in}
use Rattle.cbfs_walk.specs.Cells.{cell_in}
use Rattle.cbfs_commands.proofs.AttributeLines.{lines, lines_left}
use Rattle.cbfs_commands.proofs.OutputParts.{ToldSoFar}
use Rattle.cbfs_commands.proofs.print.details.print_attributes.Given as goal

abbrev pub invariant-loop-head : goal.invariant-loop-head
invariant-loop-head g l = record {
  same_cell : l.walk.cell ≡ l.fn.cell;
  same_offset : l.walk.cell.head.offset ≡ l.fn.cell.head.offset;
  inside : l.walk.at ≤ l.fn.cell.head.offset;
  left : OnHonestIn l.paged.device l.fn.region (λ x. (all : List Attribute) × (attributes_left x l.walk ≡ Some all));
  printout : ToldSoFar g.W.Sink (l.walk.at / 8)
      (λ image. lines (cell_attributes (cell_in (bytes_in l.fn.region image) l.fn.cell)))
      (λ image. lines_left (attributes_left (bytes_in l.fn.region image) l.walk)) l.initial.paged l.paged l.initial.out l.out;
}

abbrev pub decreases-loop-head : goal.decreases-loop-head
decreases-loop-head g l = l.fn.cell.head.offset - l.walk.at
