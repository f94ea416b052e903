use Rattle.std.proofs.Common.{refl}
use Rattle.board_structures.specs.MasterHeaders.{fields_of, header_fault, master_header_in}
use Rattle.board_structures.specs.Samples.{small_header_area}
use Rattle.board_structures.proofs.numbers.master_headers_have_their_states.Goals as goal

pub returns-clause-sound : goal.returns-clause-sound
unfolding master_header_in header_fault fields_of small_header_area
returns-clause-sound c = refl

pub returns-clause-moved : goal.returns-clause-moved
unfolding master_header_in header_fault fields_of small_header_area
returns-clause-moved c = refl

pub returns-clause-pointer : goal.returns-clause-pointer
unfolding master_header_in header_fault fields_of small_header_area
returns-clause-pointer c = refl
