use Rattle.std.proofs.Common.{◌∙◌, ap, map, refl}
use Rattle.check_report.specs.Rows.{more_of, row_line, seen_kind, selected, with_count}
use Rattle.check_report.proofs.PrinterEffects.{lines_failed, prints_none, prints_stopped, prints_then}
use Rattle.check_report.proofs.SoundRows.{selected_more}
use Rattle.check_report.proofs.rows.printer.Printer.more.Goals as goal

pub loop-kind-init : goal.loop-kind-init
loop-kind-init g c = prints_none g.W.Sink _

pub loop-kind-preserved : goal.loop-kind-preserved
loop-kind-preserved g c = prints_then g.W.Sink _ _ _ (λ k. map row_line (selected c.args.selection.only (more_of (seen_kind k)))) c.args.kinds.now c.loop-kind.kind-index _ _
    c.loop-kind-test.true refl c.loop-kind.invariant
    (rw (c.shows_more-is_shown.ensures, c.count-more.ensures ∙ ap (with_count c.saturating_sub-hidden.result) c.row-row.ensures, c.saturating_sub-hidden.ensures, selected_more) at c.in_ok-row_if.ensures)

pub returns-in_err-row_if : goal.returns-in_err-row_if
returns-in_err-row_if g c = lines_failed g.W.Sink _ _ _ _ _ c.from_residual.ensures.1
    (prints_stopped g.W.Sink _ _ _ _ (λ k. map row_line (selected c.args.selection.only (more_of (seen_kind k)))) c.args.kinds.now c.loop-kind.kind-index _ _
    c.loop-kind-test.true refl c.loop-kind.invariant
    (rw (c.shows_more-is_shown.ensures, c.count-more.ensures ∙ ap (with_count c.saturating_sub-hidden.result) c.row-row.ensures, c.saturating_sub-hidden.ensures, selected_more) at c.in_err-row_if.ensures))
