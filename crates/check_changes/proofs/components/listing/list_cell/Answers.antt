use Rattle.std.proofs.Common.{sym, ◌∙◌, arith, refl, [], ◌∷◌}
use Rattle.std.proofs.lemmas.List.Elements.{All-push}
use Rattle.std.proofs.lemmas.List.Sums.{sum_by-append}
use Rattle.check_changes.specs.declared.components.listing.Listed.{Listed}
use Rattle.check_changes.specs.Components.{IsListedIn}
use Rattle.check_changes.proofs.components.listing.list_cell.Goals as goal

pub returns-clause-cells : goal.returns-clause-cells
returns-clause-cells g c = λ lie. rw c.in_ok-push.ensures (All-push (IsListedIn c.args.region.size) c.args.all.now.items _ lie (c.requires.cell, sym c.is_free.ensures ∙ c.if-is_free.false))

pub returns-clause-room : goal.returns-clause-room
returns-clause-room g c = rw c.in_ok-push.ensures (omega (arith, sum_by-append (λ (l : Listed). l.cell.span) c.args.all.now.items (record { name = c.in_ok-name.name; cell = c.args.cell.now } ∷ [])))

pub returns-clause-listed : goal.returns-clause-listed
returns-clause-listed g c = λ h stands.
    rw (c.in_ok-push.ensures, c.in_ok-name.ensures, c.in_ok-len.ensures.name h stands, sym c.is_free.ensures, c.if-is_free.false) refl
