use Rattle.std.proofs.Common.{inl, inr}
use Rattle.std.proofs.lemmas.Result.{err_from_is_err_and}
use Rattle.std.proofs.KnownBytes.{Keeps-refl}
use Rattle.fmap_compiler.proofs.Compilations.{HasTable-prefix, Refuses-known}
use Rattle.fmap_compiler.proofs.compiler.run_with_text.Goals as goal

pub returns-clause-output : goal.returns-clause-output
returns-clause-output g c =
    HasTable-prefix _ _ _ c.deref.result.now c.in_ok-table.table.items c.deref-2.result.now c.in_ok-text.ensures.text
    c.deref.ensures.value c.deref-2.ensures.value c.in_ok-table.ensures.compiled c.in_ok-put_all.ensures.put

pub returns-in_err-put_all-clause-output : goal.returns-in_err-put_all-clause-output
returns-in_err-put_all-clause-output g c =
    let p = err_from_is_err_and c.from_residual-in_err-put_all.result c.from_residual-in_err-put_all.ensures.1 in
    rw (p.1, p.2) (HasTable-prefix _ _ _ c.deref.result.now c.in_ok-table.table.items c.deref-2.result.now
    c.in_ok-text.ensures.text c.deref.ensures.value c.deref-2.ensures.value c.in_ok-table.ensures.compiled
    c.in_err-put_all.ensures.part)

pub returns-in_err-table-clause-output : goal.returns-in_err-table-clause-output
returns-in_err-table-clause-output g c =
    let p = err_from_is_err_and c.from_residual-in_err-table.result c.from_residual-in_err-table.ensures.1 in
    rw (p.1, p.2) (
      elim c.in_err-table.ensures.refused [
        | inl memory ↦ inl memory
        | inr refuses ↦ inr (Refuses-known _ _ c.deref.result.now c.in_err-table.field-0.0
            c.in_ok-text.ensures.text c.deref.ensures.value refuses)
      ],
      Keeps-refl _,
    )
