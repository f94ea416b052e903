use Rattle.std.proofs.Common.{arith, length-drop, ◌≤◌, ◌-◌, ◌+◌}
use Rattle.std.proofs.lemmas.Grind.{common_steps}
use Rattle.flash_map.proofs.FmapLemmas.{head_read, map_head-short}
use Rattle.flash_map.proofs.search.map_head_at.Goals as goal

pub returns-then-len-lt-HEAD_LENGTH-clause-head : goal.returns-then-len-lt-HEAD_LENGTH-clause-head
returns-then-len-lt-HEAD_LENGTH-clause-head g c = λ h. map_head-short _ (grind (arith, length-drop, common_steps))

pub returns-clause-head : goal.returns-clause-head
returns-clause-head g c = λ h.
    let inside : c.args.place + 56 ≤ c.args.len = grind (arith, common_steps) in
    head_read _ _ (c.args.len - c.args.place) c.args.place _ c.head_in.ensures.head (c.in_ok-read_small.ensures.read h) (omega (arith, inside, c.requires))
