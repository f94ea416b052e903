use Rattle.std.proofs.Common.{◌≡◌, ◌∙◌, ap, rules}
use Rattle.std.specs.Prelude.{is_none}
use Rattle.flash_format.specs.TypeNames.{name_of_type}
use Rattle.check_report.specs.Rows.{at_component, with_number}
use Rattle.check_report.proofs.SoundRows.{adds_after, adds_before, adds_failed}
use Rattle.check_report.proofs.region.add_component.Goals as goal

pub returns : goal.returns
returns g c =
    let content = c.in-Component.content in
    let here = at_component c.args.region.now c.in-Component.at c.as_slice-name.result.now in
    let number = c.number-row.ensures ∙ ap (with_number c.from.result) c.row-row-4.ensures in
    let kind : c.is_none-is_nameless.result ≡ is_none (name_of_type content.kind) = search rules in
    let first = c.at_component.ensures ∙ ap here c.row-row.ensures in
    let long = c.at_component-2.ensures ∙ ap here c.row-row-2.ensures in
    let other = c.at_component-3.ensures ∙ ap here c.row-row-3.ensures in
    let third = c.at_component-4.ensures ∙ ap here number in
    rw (c.in-Component.is, ← c.as_slice-name.ensures)
    (adds_after (rw first at c.in_ok-add_if.ensures)
    (adds_after (rw (long, c.has_long_metadata.ensures) at c.in_ok-add_if-2.ensures)
    (adds_after (rw (other, c.is_text.ensures) at c.in_ok-add_if-3.ensures)
    (adds_after (rw (third, kind, c.from.ensures) at c.in_ok-add_if-4.ensures)
    (adds_after c.in_ok-add_hash.ensures c.add_attributes.ensures)))))

pub returns-in_err-add_if : goal.returns-in_err-add_if
returns-in_err-add_if g c =
    let content = c.in-Component.content in
    let here = at_component c.args.region.now c.in-Component.at c.as_slice-name.result.now in
    let first = c.at_component.ensures ∙ ap here c.row-row.ensures in
    adds_failed c.from_residual.ensures.1 (rw (c.in-Component.is, ← c.as_slice-name.ensures) (adds_before _ (rw first at c.in_err-add_if.ensures)))

pub returns-in_err-add_if-2 : goal.returns-in_err-add_if-2
returns-in_err-add_if-2 g c =
    let content = c.in-Component.content in
    let here = at_component c.args.region.now c.in-Component.at c.as_slice-name.result.now in
    let first = c.at_component.ensures ∙ ap here c.row-row.ensures in
    let long = c.at_component-2.ensures ∙ ap here c.row-row-2.ensures in
    adds_failed c.from_residual-in_err-add_if-2.ensures.1 (rw (c.in-Component.is, ← c.as_slice-name.ensures) (adds_after (rw first at c.in_ok-add_if.ensures)
    (adds_before _ (rw (long, c.has_long_metadata.ensures) at c.in_err-add_if-2.ensures))))

pub returns-in_err-add_if-3 : goal.returns-in_err-add_if-3
returns-in_err-add_if-3 g c =
    let content = c.in-Component.content in
    let here = at_component c.args.region.now c.in-Component.at c.as_slice-name.result.now in
    let first = c.at_component.ensures ∙ ap here c.row-row.ensures in
    let long = c.at_component-2.ensures ∙ ap here c.row-row-2.ensures in
    let other = c.at_component-3.ensures ∙ ap here c.row-row-3.ensures in
    adds_failed c.from_residual-in_err-add_if-3.ensures.1 (rw (c.in-Component.is, ← c.as_slice-name.ensures) (adds_after (rw first at c.in_ok-add_if.ensures)
    (adds_after (rw (long, c.has_long_metadata.ensures) at c.in_ok-add_if-2.ensures)
    (adds_before _ (rw (other, c.is_text.ensures) at c.in_err-add_if-3.ensures)))))

pub returns-in_err-add_if-4 : goal.returns-in_err-add_if-4
returns-in_err-add_if-4 g c =
    let content = c.in-Component.content in
    let here = at_component c.args.region.now c.in-Component.at c.as_slice-name.result.now in
    let first = c.at_component.ensures ∙ ap here c.row-row.ensures in
    let long = c.at_component-2.ensures ∙ ap here c.row-row-2.ensures in
    let other = c.at_component-3.ensures ∙ ap here c.row-row-3.ensures in
    let number = c.number-row.ensures ∙ ap (with_number c.from.result) c.row-row-4.ensures in
    let kind : c.is_none-is_nameless.result ≡ is_none (name_of_type content.kind) = search rules in
    let third = c.at_component-4.ensures ∙ ap here number in
    adds_failed c.from_residual-in_err-add_if-4.ensures.1 (rw (c.in-Component.is, ← c.as_slice-name.ensures) (adds_after (rw first at c.in_ok-add_if.ensures)
    (adds_after (rw (long, c.has_long_metadata.ensures) at c.in_ok-add_if-2.ensures)
    (adds_after (rw (other, c.is_text.ensures) at c.in_ok-add_if-3.ensures)
    (adds_before _ (rw (third, kind, c.from.ensures) at c.in_err-add_if-4.ensures))))))

pub returns-in_err-add_hash : goal.returns-in_err-add_hash
returns-in_err-add_hash g c =
    let content = c.in-Component.content in
    let here = at_component c.args.region.now c.in-Component.at c.as_slice-name.result.now in
    let first = c.at_component.ensures ∙ ap here c.row-row.ensures in
    let long = c.at_component-2.ensures ∙ ap here c.row-row-2.ensures in
    let other = c.at_component-3.ensures ∙ ap here c.row-row-3.ensures in
    let number = c.number-row.ensures ∙ ap (with_number c.from.result) c.row-row-4.ensures in
    let kind : c.is_none-is_nameless.result ≡ is_none (name_of_type content.kind) = search rules in
    let third = c.at_component-4.ensures ∙ ap here number in
    adds_failed c.from_residual-in_err-add_hash.ensures.1 (rw (c.in-Component.is, ← c.as_slice-name.ensures) (adds_after (rw first at c.in_ok-add_if.ensures)
    (adds_after (rw (long, c.has_long_metadata.ensures) at c.in_ok-add_if-2.ensures)
    (adds_after (rw (other, c.is_text.ensures) at c.in_ok-add_if-3.ensures)
    (adds_after (rw (third, kind, c.from.ensures) at c.in_ok-add_if-4.ensures)
    (adds_before _ c.in_err-add_hash.ensures))))))
