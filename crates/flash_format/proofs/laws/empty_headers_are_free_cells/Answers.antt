use Rattle.flash_format.proofs.Splices.{space_cell}
use Rattle.flash_format.proofs.laws.empty_headers_are_free_cells.Goals as goal

pub returns : goal.returns
returns c = space_cell
