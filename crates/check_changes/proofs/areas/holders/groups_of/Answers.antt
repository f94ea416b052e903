use Rattle.std.proofs.Common.{sym}
use Rattle.std.proofs.lemmas.List.Sorted.{list_any-IsPermutation}
use Rattle.check_changes.specs.Areas.{has_block}
use Rattle.check_changes.specs.Holders.{holders_have, ranges_of}
use Rattle.check_changes.proofs.HolderLemmas.{grouped_more, has_parts}
use Rattle.check_changes.proofs.areas.holders.groups_of.Goals as goal

pub loop-rest-preserved : goal.loop-rest-preserved
loop-rest-preserved c = λ outer number.
    let some = c.split_at.result.0.now in
    let group = c.in_ok-of.field-0 in
    grouped_more (λ group. holders_have outer number group.holders.items) (holders_have outer number) c.loop-rest.groups.items c.push.new.list.items group c.loop-rest.rest.now some c.split_at.result.1.now c.args.all.now c.in_ok-push.ensures
    (sym (list_any-IsPermutation (λ h. has_block outer number (ranges_of h)) some group.holders.items c.in_ok-of.ensures))
    (has_parts outer number c.min.result c.loop-rest.rest.now some c.split_at.result.1.now c.split_at.ensures.front c.split_at.ensures.back)
    (c.loop-rest.invariant outer number)
