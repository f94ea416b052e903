use Rattle.std.proofs.Common.{◌≡◌, length}
use Rattle.cbfs_mistakes.specs.Near.{is_near}
use Rattle.cbfs_mistakes.proofs.near.is_near.Given as goal

abbrev pub invariant-loop-x : goal.invariant-loop-x
invariant-loop-x l = is_near l.rest l.other ≡ is_near l.word l.known

abbrev pub decreases-loop-x : goal.decreases-loop-x
decreases-loop-x l = length l.rest
