use Rattle.std.proofs.Common.{Some, None}
use Rattle.flash_map.proofs.FmapLemmas.{finds_in_whole}
use Rattle.flash_map.proofs.search.signature_in.Goals as goal

pub returns-in-Some-clause-first : goal.returns-in-Some-clause-first
returns-in-Some-clause-first g c = λ h.
    finds_in_whole _ c.args.at c.args.n (Some c.in-Some.place) c.requires.inside (rw (c.in_ok-bytes.ensures.read h) at c.in-Some.ensures)

pub returns-in-None-clause-first : goal.returns-in-None-clause-first
returns-in-None-clause-first g c = λ h.
    finds_in_whole _ c.args.at c.args.n None c.requires.inside (rw (c.in_ok-bytes.ensures.read h) at c.in-None.ensures)
