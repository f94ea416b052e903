use Rattle.std.proofs.Common.{rules, ⊎_elim, sym}
use Rattle.std.proofs.lemmas.Result.{err_from_is_err_and}
use Rattle.cbfs_edit.proofs.Removals.{image_of, removal_leaves, removal_refused}
use Rattle.cbfs_edit.proofs.removal.remove.Goals as goal

pub returns-in_err-group-clause-effect : goal.returns-in_err-group-clause-effect
returns-in_err-group-clause-effect g c honest =
    let told = err_from_is_err_and c.from_residual.result c.from_residual.ensures.1 in
    rw (told.1, told.2) (search (rules, removal_refused))

pub returns-in_err-write_empty_entry-clause-effect : goal.returns-in_err-write_empty_entry-clause-effect
returns-in_err-write_empty_entry-clause-effect g c honest =
    let told = err_from_is_err_and c.from_residual-in_err-write_empty_entry.result c.from_residual-in_err-write_empty_entry.ensures.1 in
    rw (told.1, told.2) (search (rules, removal_leaves))

pub returns-clause-effect : goal.returns-clause-effect
returns-clause-effect g c honest = (⊎_elim (λ failed. absurd cc) (λ is. sym is) (c.in_ok-group.ensures.answer honest), search (rules, image_of))
