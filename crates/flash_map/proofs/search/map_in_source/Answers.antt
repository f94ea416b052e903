use Rattle.std.proofs.Common.{arith}
use Rattle.flash_map.proofs.FmapLemmas.{head_read, map_head-short}
use Rattle.flash_map.proofs.search.map_in_source.Goals as goal

pub returns-then-len-lt-HEAD_LENGTH-clause-head : goal.returns-then-len-lt-HEAD_LENGTH-clause-head
returns-then-len-lt-HEAD_LENGTH-clause-head g c = λ h. map_head-short _ (omega (arith, c.len-len.ensures.length, c.if-len-lt-HEAD_LENGTH.true))

pub returns-clause-head : goal.returns-clause-head
returns-clause-head g c = λ h.
    head_read _ _ c.len-len.result 0 _ c.head_in.ensures.head (c.in_ok-read_at.ensures.after.read h) (omega (arith, c.len-len.ensures.length))
