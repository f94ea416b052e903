use Rattle.flash_format.proofs.CellLists.{cut_goes_on, components-append, components-moved}
use Rattle.flash_format.proofs.laws.cuts_go_on.Goals as goal

pub returns : goal.returns
returns c = record { cells = cut_goes_on; joined = components-append; shifted = components-moved }
