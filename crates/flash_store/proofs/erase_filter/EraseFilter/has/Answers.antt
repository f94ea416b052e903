use Rattle.std.proofs.Common.{◌∙◌, ◌+◌, ◌-◌, ◌≤◌, length, arith, sym}
use Rattle.flash_store.proofs.StoringLemmas.{IsErased-part}
use Rattle.flash_store.proofs.erase_filter.EraseFilter.has.Goals as goal

pub returns-then-n-le-MANY-clause-same : goal.returns-then-n-le-MANY-clause-same
returns-then-n-le-MANY-clause-same g c = rw (← c.self.view_is) (λ same h.
    let n = length c.args.bytes.now in
    let before : c.args.at ≤ c.self.inside.to = c.if-at-self-2.false in
    let short : n ≤ c.self.inside.to - c.args.at = c.if-n-self.false in
    let within : c.args.at + n ≤ c.self.inside.to = omega (arith, before, short) in
    IsErased-part _ c.self.inside.from c.self.inside.to c.args.at n c.if-at-self.false within (c.self.invariant.2 h)
    ∙ sym (c.is_erased.ensures same))
