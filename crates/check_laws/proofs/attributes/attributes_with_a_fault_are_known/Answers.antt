use Rattle.std.proofs.Common.{refl}
use Rattle.flash_format.specs.Entry.{attr_head_of}
use Rattle.check_findings.specs.Attributes.{fault_after, walk_after}
use Rattle.check_laws.proofs.attributes.attributes_with_a_fault_are_known.Goals as goal

pub returns-clause-behind_end : goal.returns-clause-behind_end
unfolding attr_head_of fault_after walk_after
returns-clause-behind_end c = refl

pub returns-clause-behind_last : goal.returns-clause-behind_last
unfolding attr_head_of fault_after walk_after
returns-clause-behind_last c = refl

pub returns-clause-compression : goal.returns-clause-compression
unfolding attr_head_of fault_after walk_after
returns-clause-compression c = refl

pub returns-clause-digest_length : goal.returns-clause-digest_length
unfolding attr_head_of fault_after walk_after
returns-clause-digest_length c = refl

pub returns-clause-short_digest : goal.returns-clause-short_digest
unfolding attr_head_of fault_after walk_after
returns-clause-short_digest c = refl

pub returns-clause-algorithm : goal.returns-clause-algorithm
unfolding attr_head_of fault_after walk_after
returns-clause-algorithm c = refl

pub returns-clause-second : goal.returns-clause-second
unfolding attr_head_of fault_after walk_after
returns-clause-second c = refl

pub returns-clause-no_stage : goal.returns-clause-no_stage
unfolding attr_head_of fault_after walk_after
returns-clause-no_stage c = refl

pub returns-clause-stage_length : goal.returns-clause-stage_length
unfolding attr_head_of fault_after walk_after
returns-clause-stage_length c = refl

pub returns-clause-entry : goal.returns-clause-entry
unfolding attr_head_of fault_after walk_after
returns-clause-entry c = refl
