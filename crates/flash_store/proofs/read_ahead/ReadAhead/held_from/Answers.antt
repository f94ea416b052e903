use Rattle.std.proofs.Common.{◌∙◌, ◌-◌, ◌≤◌, length, take, drop, arith, sym, length-take}
use Rattle.std.proofs.Math.Seq.{take-length}
use Rattle.flash_store.proofs.StoringLemmas.{Held-part}
use Rattle.flash_store.proofs.read_ahead.ReadAhead.held_from.Goals as goal

pub returns : goal.returns
returns g c = rw (← c.self.view_is) (λ h.
    let window = c.self.inside.window in
    let held = c.self.inside.to - c.self.inside.from in
    let skip = c.args.at - c.self.inside.from in
    let part = take (held - skip) (drop skip window) in
    let short : length part ≤ held - skip = omega (arith, length-take (held - skip) (drop skip window)) in
    sym (take-length part) ∙ Held-part window _ c.self.inside.from held c.args.at (length part) c.if-at-self.false (omega (arith, c.if-at-self-2.false)) short (c.self.invariant.2 h))
