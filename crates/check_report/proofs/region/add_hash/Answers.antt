use Rattle.std.proofs.Common.{◌∙◌, ap}
use Rattle.check_report.specs.Rows.{at_component}
use Rattle.check_report.proofs.SoundRows.{adds_after, adds_before, adds_failed}
use Rattle.check_report.proofs.region.add_hash.Goals as goal

pub returns : goal.returns
returns g c =
    let here = at_component c.args.region.now c.args.at c.args.name.now in
    let hash = c.at_component-row.ensures ∙ ap here c.row.ensures in
    let words = c.hash_words.ensures in
    let state = rw (hash, c.of_finding-verdict.ensures, c.is_bad.ensures, ap (λ w. w.0) words, ap (λ w. w.1) words, c.has_hash_row.ensures) at c.in_ok-add_if.ensures in
    let other = rw (c.at_component.ensures ∙ ap here c.row-row.ensures, c.differ.ensures) at c.add_if-2.ensures in
    adds_after state other

pub returns-in_err-add_if : goal.returns-in_err-add_if
returns-in_err-add_if g c =
    let here = at_component c.args.region.now c.args.at c.args.name.now in
    let hash = c.at_component-row.ensures ∙ ap here c.row.ensures in
    let words = c.hash_words.ensures in
    adds_failed c.from_residual.ensures.1
    (adds_before _ (rw (hash, c.of_finding-verdict.ensures, c.is_bad.ensures, ap (λ w. w.0) words, ap (λ w. w.1) words, c.has_hash_row.ensures) at c.in_err-add_if.ensures))
