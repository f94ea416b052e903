use Rattle.std.proofs.Common.{◌≡◌, Ok, length, refl, arith}
use Rattle.flash_format.specs.Components.{components_from}
use Rattle.flash_format.specs.Cut.{cut_after}
use Rattle.flash_format.specs.Entry.{attr_head_of, scan_after, entry}
use Rattle.flash_format.specs.Head.{extent_of, head_at, head_of}
use Rattle.cbfs_anchor.specs.Samples.{free_cell}
use Rattle.cbfs_edit.specs.Additions.{addition_in}
use Rattle.cbfs_edit.specs.Laws.{IsAdded}
use Rattle.cbfs_edit.specs.Places.{placing_in, runs_from}
use Rattle.cbfs_edit.specs.declared.place.Spot.TheVariants.{First}
use Rattle.cbfs_commands.specs.Samples.{new_data, place_in_free}
use Rattle.cbfs_commands.proofs.numbers.an_added_content_is_extracted.Goals as goal

its_length : length free_cell ≡ 64
unfolding free_cell
its_length = refl

its_place : addition_in free_cell new_data First ≡ Ok place_in_free
unfolding addition_in placing_in runs_from components_from cut_after entry head_of head_at extent_of scan_after attr_head_of free_cell
its_place = refl

is_added : IsAdded free_cell new_data First place_in_free
is_added = record { region = omega (arith, its_length); kind = omega arith; digest = tt; placed = its_place }

pub returns : goal.returns
returns c = (c.additions_are_extracted.ensures free_cell new_data First place_in_free is_added).region
