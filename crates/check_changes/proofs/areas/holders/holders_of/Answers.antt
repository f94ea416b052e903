use Rattle.std.proofs.Common.{◌≡◌, ◌++◌, rules}
use Rattle.std.specs.Prelude.{option_to_list}
use Rattle.check_changes.proofs.HolderLemmas.{held_more}
use Rattle.check_changes.proofs.areas.holders.holders_of.Goals.{in-Some+in_ok-push, in_default}
use Rattle.check_changes.proofs.areas.holders.holders_of.Goals as goal

pub loop-pair-preserved : goal.loop-pair-preserved
loop-pair-preserved c = λ outer number.
    let pushed : c.match-of.holders.items ≡ c.loop-pair.holders.items ++ option_to_list c.of.result = elim c.match-of.branch [
      | in-Some+in_ok-push w ↦ search rules
      | in_default w ↦ search rules
    ] in
    held_more c.args.lens c.args.pairs.now c.loop-pair.pair-index _ c.loop-pair.holders.items c.match-of.holders.items c.of.result outer number c.loop-pair-test.true c.of.ensures pushed (c.loop-pair.invariant outer number)
