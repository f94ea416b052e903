use Rattle.std.proofs.Common.{refl, ℕ, arith, ap}
use Rattle.check_changes.specs.declared.images.Both.{Both}
use Rattle.check_changes.proofs.AreaLemmas.BlockLemmas.{different_blocks-all}
use Rattle.check_changes.proofs.areas.areas.different_blocks.Goals as goal

pub returns-clause-blocks : goal.returns-clause-blocks
returns-clause-blocks g c = λ h k.
    let old = ap (λ (l : Both ℕ). l.old) c.lengths-lens.ensures.lengths in
    let new = ap (λ (l : Both ℕ). l.new) c.lengths-lens.ensures.lengths in
    different_blocks-all _ _ (record { old = c.in-Some-Some.old; new = c.in-Some-Some.new }) c.lengths-lens.result c.blocks_of-shorter.result c.blocks_of-longer.result c.in_ok-common.common.blocks _
    (rw ((rw c.in-Some-Some.is-0 at c.within-old.ensures).0, (rw c.in-Some-Some.is-1 at c.within-new.ensures).0) refl) old new (omega arith) (omega arith) (c.in_ok-common.ensures.blocks h k) (omega arith)
