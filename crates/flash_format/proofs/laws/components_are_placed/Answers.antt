use Rattle.flash_format.proofs.Placings.{placed, empty_is_space}
use Rattle.flash_format.proofs.laws.components_are_placed.Goals as goal

pub returns : goal.returns
returns c = record { placed = placed; empty_entries = empty_is_space }
