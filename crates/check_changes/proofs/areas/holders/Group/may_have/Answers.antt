use Rattle.std.proofs.Common.{◌≡◌, ◌∙◌, ◌-◌, ◌<◌, ◌≤◌, true, false, length, ap, arith, leb, rules}
use Rattle.std.specs.Prelude.{slice_index_or}
use Rattle.std.specs.List.Sorted.{IsPartitionPoint}
use Rattle.std.proofs.lemmas.List.Sorted.{IsPartitionPoint-from_clause, IsPartitionedBy-leb}
use Rattle.std.proofs.lemmas.Bool.{leb-false}
use Rattle.std.proofs.lemmas.List.{get_or_default}
use Rattle.check_changes.specs.Holders.{start_of}
use Rattle.check_changes.proofs.HolderLemmas.{none_smaller, none_there}
use Rattle.check_changes.proofs.areas.holders.Group.may_have.Goals as goal

pub returns-then-from-size : goal.returns-then-from-size
returns-then-from-size c = λ _.
    none_smaller c.args.outer.now c.args.number c.args.self.now.smallest c.args.self.now.holders.items c.args.self.now.sizes (omega arith)

pub returns-then-count-gt0 : goal.returns-then-count-gt0
returns-then-count-gt0 c = λ no.
    let group = c.args.self.now in
    let count = c.partition_point-count.result in
    let parted = IsPartitionedBy-leb start_of _ c.place_of-start.result group.sorted in
    let point : IsPartitionPoint (λ h. leb (start_of h) c.place_of-start.result ≡ true) (λ h. leb (start_of h) c.place_of-start.result ≡ false) group.holders.items count =
    rw c.deref.ensures.value at (IsPartitionPoint-from_clause (λ h. leb (start_of h) c.place_of-start.result) _ _ c.partition_point-count.ensures.partitioned (rw (← c.deref.ensures.value) at parted) (λ a r q k. search rules)) in
    none_there c.args.outer.now c.args.number group.holders.items group.reaches.items count c.place_of-start.result c.place_of-end.result (search rules) (search rules) (omega arith) point
    (λ k d below lt.
    let bound : count ≤ length group.holders.items = omega (arith, c.partition_point-count.ensures.bound, ap length c.deref.ensures.value) in
    let last : count - 1 < length group.holders.items = omega (arith, bound, below) in
    let read : c.index.result.now ≡ slice_index_or group.reaches.items (count - 1) 0 = c.index.ensures ∙ get_or_default group.reaches.items (count - 1) _ 0 (omega (arith, last, group.all)) in
    omega (arith, group.reached k (count - 1) d (omega (arith, below)) last, read, leb-false _ _ no))

pub returns-else-count-gt0 : goal.returns-else-count-gt0
returns-else-count-gt0 c = λ no.
    let group = c.args.self.now in
    let count = c.partition_point-count.result in
    let parted = IsPartitionedBy-leb start_of _ c.place_of-start.result group.sorted in
    let point : IsPartitionPoint (λ h. leb (start_of h) c.place_of-start.result ≡ true) (λ h. leb (start_of h) c.place_of-start.result ≡ false) group.holders.items count =
    rw c.deref.ensures.value at (IsPartitionPoint-from_clause (λ h. leb (start_of h) c.place_of-start.result) _ _ c.partition_point-count.ensures.partitioned (rw (← c.deref.ensures.value) at parted) (λ a r q k. search rules)) in
    none_there c.args.outer.now c.args.number group.holders.items group.reaches.items count c.place_of-start.result c.place_of-end.result (search rules) (search rules) (omega arith) point
    (λ k d below lt. absurd (omega (arith, below, c.if-count-gt0.false)))
