use Rattle.flash_format.proofs.MadeLaws.{metadata_is_read, made_as_long, room_is_least}
use Rattle.flash_format.proofs.laws.made_cells_are_read_as_made.Goals as goal

pub returns : goal.returns
returns c = record { made = metadata_is_read; len = made_as_long; room = room_is_least }
