use Rattle.std.proofs.Common.{◌∙◌, length, arith, sym, ap, subst, IsTrue, rules}
use Rattle.std.proofs.Math.Seq.{take-length}
use Rattle.flash_device.specs.Device.{overwritten}
use Rattle.flash_device.proofs.BytesLemmas.{overwritten-same}
use Rattle.flash_store.proofs.StoringLemmas.{IsErased-apart, IsErased-inside}
use Rattle.flash_store.proofs.erase_filter.EraseFilterStorage.write_some.Goals as goal

pub returns-then-has-clause-after : goal.returns-then-has-clause-after
returns-then-has-clause-after g c =
    let bytes = c.args.bytes.now in
    let x = c.args.self.now.content in
    let written = λ (h : IsTrue c.args.self.now.faithful).
    sym (ap (overwritten x c.args.at) (take-length bytes ∙ sym (c.has.ensures.same c.if-has.true h)) ∙ overwritten-same x c.args.at (length bytes) c.requires.inside) in
    search (rules, written)

pub invariant_of-self : goal.invariant_of-self
invariant_of-self g c =
    let rest = c.longer_rest-from.ensures.inside in
    let after = c.write_some.ensures.after.after in (
      rest.1,
      omega (arith, rest.2, c.self.invariant.1, after.same_length),
      λ h.
          let h' = subst IsTrue after.same_faith h in
          IsErased-apart _ _ c.args.at (length c.args.bytes.now) c.longer_rest-from.result.0 c.longer_rest-from.result.1 rest.1
          c.longer_rest-from.ensures.apart (c.write_some.ensures.after.torn h')
          (IsErased-inside _ c.self.inside.from c.self.inside.to _ _ rest.0 rest.1 rest.2 (c.self.invariant.2 h')),
    )
