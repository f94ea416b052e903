use Rattle.std.proofs.Common.{refl}
use Rattle.board_structures.specs.Descriptors.{range_of}
use Rattle.board_structures.proofs.numbers.regions_have_their_ranges.Goals as goal

pub returns-clause-bios : goal.returns-clause-bios
unfolding range_of
returns-clause-bios c = refl

pub returns-clause-me : goal.returns-clause-me
unfolding range_of
returns-clause-me c = refl

pub returns-clause-gbe : goal.returns-clause-gbe
unfolding range_of
returns-clause-gbe c = refl
