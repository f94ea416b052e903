use Rattle.flash_format.proofs.CutLaws.{cut_exists, cut_unique}
use Rattle.flash_format.proofs.laws.cuts_are_made_of_cells.Goals as goal

pub returns : goal.returns
returns c = record { every = cut_exists; unique = cut_unique }
