use Rattle.std.proofs.Common.{refl}
use Rattle.flash_format.specs.Entry.{attr_head_of}
use Rattle.check_findings.specs.Attributes.{fault_after, walk_after}
use Rattle.check_laws.proofs.attributes.sound_attributes_have_no_fault.Goals as goal

pub returns-clause-none : goal.returns-clause-none
unfolding attr_head_of fault_after walk_after
returns-clause-none c = refl

pub returns-clause-digest : goal.returns-clause-digest
unfolding attr_head_of fault_after walk_after
returns-clause-digest c = refl

pub returns-clause-cleared : goal.returns-clause-cleared
unfolding attr_head_of fault_after walk_after
returns-clause-cleared c = refl

pub returns-clause-last : goal.returns-clause-last
unfolding attr_head_of fault_after walk_after
returns-clause-last c = refl

pub returns-clause-other_algorithm : goal.returns-clause-other_algorithm
unfolding attr_head_of fault_after walk_after
returns-clause-other_algorithm c = refl

pub returns-clause-last_byte : goal.returns-clause-last_byte
unfolding attr_head_of fault_after walk_after
returns-clause-last_byte c = refl

pub returns-clause-compression : goal.returns-clause-compression
unfolding attr_head_of fault_after walk_after
returns-clause-compression c = refl

pub returns-clause-stage : goal.returns-clause-stage
unfolding attr_head_of fault_after walk_after
returns-clause-stage c = refl

pub returns-clause-second_stage : goal.returns-clause-second_stage
unfolding attr_head_of fault_after walk_after
returns-clause-second_stage c = refl

pub returns-clause-other_type : goal.returns-clause-other_type
unfolding attr_head_of fault_after walk_after
returns-clause-other_type c = refl
