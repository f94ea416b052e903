use Rattle.std.proofs.Common.{arith}
use Rattle.check_report.specs.Reports.{inspection_rows, subject_of, terminal_report}
use Rattle.check_report.specs.Rows.{conclusion_of, has_verdict}
use Rattle.check_report.specs.declared.rows.row.Verdict.TheVariants.{Bad}
use Rattle.check_report.proofs.ReportParts.{some_closing}
use Rattle.check_report.proofs.RowCounts.{some_bad}
use Rattle.check_report.proofs.TableEffects.{closed, unclosed}
use Rattle.check_report.proofs.inspection.Inspection.write_tables.Goals.{in-Ok, in-Err}
use Rattle.check_report.proofs.inspection.Inspection.write_tables.Goals as goal

pub returns-clause-text : goal.returns-clause-text
unfolding terminal_report
returns-clause-text g c =
    let made = c.new-rows.ensures.printer in
    rw (c.into_inner.ensures, ← c.new-printer.ensures.out) (elim c.match-print_tables.branch [
      | in-Ok w ↦ rw (w.rows-is, w.is_bad-is) (closed g.W.Sink w.close-is_bad.result _ _ _ _ _ (rw made at w.in-Ok.ensures.bytes)
          (rw (w.subject.ensures, w.in-Ok.ensures.counts) at w.close-is_bad.ensures.text) (rw (w.subject.ensures, w.in-Ok.ensures.counts) at w.close-is_bad.ensures.part)).0
      | in-Err w ↦ rw w.is_bad-is tt
    ])

pub returns-clause-part : goal.returns-clause-part
unfolding terminal_report
returns-clause-part g c =
    let made = c.new-rows.ensures.printer in
    rw (c.into_inner.ensures, ← c.new-printer.ensures.out) (elim c.match-print_tables.branch [
      | in-Ok w ↦ rw (w.rows-is, w.is_bad-is) (closed g.W.Sink w.close-is_bad.result _ _ _ _ _ (rw made at w.in-Ok.ensures.bytes)
          (rw (w.subject.ensures, w.in-Ok.ensures.counts) at w.close-is_bad.ensures.text) (rw (w.subject.ensures, w.in-Ok.ensures.counts) at w.close-is_bad.ensures.part)).1
      | in-Err w ↦ rw (w.rows-is, w.is_bad-is)
          (unclosed g.W.Sink _ _ _ _ _ (some_closing c.args.colours c.args.request (conclusion_of (subject_of c.args.request) (inspection_rows c.args.request c.args.self.now))) (rw made at w.in-Err.ensures.bytes))
    ])

pub returns-clause-bad : goal.returns-clause-bad
returns-clause-bad g c =
    elim c.match-print_tables.branch [
      | in-Ok w ↦ rw w.is_bad-is (rw (w.in-Ok.ensures.counts, some_bad (has_verdict Bad) (inspection_rows c.args.request c.args.self.now)) at w.close-is_bad.ensures.bad)
      | in-Err w ↦ rw w.is_bad-is tt
    ]

pub returns-clause-cause : goal.returns-clause-cause
returns-clause-cause g c =
    let made = c.new-rows.ensures.printer in
    rw (c.into_inner.ensures, ← c.new-printer.ensures.out) (elim c.match-print_tables.branch [
      | in-Ok w ↦ rw (w.rows-is, w.is_bad-is) (omega (arith, rw made at w.in-Ok.ensures.bytes.cause, w.close-is_bad.ensures.cause))
      | in-Err w ↦ rw (w.rows-is, w.is_bad-is) (omega (arith, rw (made, w.in-Err.is) at c.print_tables.ensures.bytes.cause))
    ])
