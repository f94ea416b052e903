use Rattle.std.proofs.Common.{refl}
use Rattle.board_structures.specs.Descriptors.{range_of}
use Rattle.board_structures.proofs.numbers.moved_areas_are_differences.Goals as goal

pub returns-clause-same : goal.returns-clause-same
unfolding range_of
returns-clause-same c = refl

pub returns-clause-short : goal.returns-clause-short
unfolding range_of
returns-clause-short c = refl

pub returns-clause-none : goal.returns-clause-none
unfolding range_of
returns-clause-none c = refl
