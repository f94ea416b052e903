use Rattle.std.proofs.Common.{arith}
use Rattle.check_report.proofs.SoundRows.{report_text, stopped_heading, stopped_rows}
use Rattle.check_report.proofs.inspection.Inspection.write_lines.Goals.{in-Ok, in-Err-add_rows}
use Rattle.check_report.proofs.inspection.Inspection.write_lines.Goals as goal

pub returns-clause-part : goal.returns-clause-part
returns-clause-part g c =
    let begun = c.in_default.ensures in
    let made = c.new-rows.ensures in
    rw (c.into_inner.ensures, ← c.new-printer.ensures.out) (elim c.match-add_rows.branch [
      | in-Ok w ↦
          let written = report_text g.W.Sink w.finish-is_bad.result c.new-printer.result c.print_heading.new.printer c.add_rows.new.rows w.finish-is_bad.new.self
          c.args.form c.args.request c.args.self.now c.new-printer.ensures.form begun.printed (w.in-Ok.ensures.added _ _ _ made.sound) (rw w.subject.ensures at w.finish-is_bad.ensures) in
          rw (w.rows-is, w.is_bad-is) written.2
      | in-Err-add_rows w ↦ rw (w.rows-is, w.is_bad-is)
          (stopped_rows g.W.Sink c.new-printer.result c.print_heading.new.printer c.add_rows.new.rows c.args.form c.args.request c.args.self.now c.new-printer.ensures.form begun.printed
          (w.in-Err-add_rows.ensures.stopped _ _ _ made.sound))
    ])

pub returns-clause-bad : goal.returns-clause-bad
returns-clause-bad g c =
    let begun = c.in_default.ensures in
    let made = c.new-rows.ensures in
    elim c.match-add_rows.branch [
      | in-Ok w ↦
          let written = report_text g.W.Sink w.finish-is_bad.result c.new-printer.result c.print_heading.new.printer c.add_rows.new.rows w.finish-is_bad.new.self
          c.args.form c.args.request c.args.self.now c.new-printer.ensures.form begun.printed (w.in-Ok.ensures.added _ _ _ made.sound) (rw w.subject.ensures at w.finish-is_bad.ensures) in
          rw w.is_bad-is written.0
      | in-Err-add_rows w ↦ rw w.is_bad-is tt
    ]

pub returns-clause-text : goal.returns-clause-text
returns-clause-text g c =
    let begun = c.in_default.ensures in
    let made = c.new-rows.ensures in
    rw (c.into_inner.ensures, ← c.new-printer.ensures.out) (elim c.match-add_rows.branch [
      | in-Ok w ↦
          let written = report_text g.W.Sink w.finish-is_bad.result c.new-printer.result c.print_heading.new.printer c.add_rows.new.rows w.finish-is_bad.new.self
          c.args.form c.args.request c.args.self.now c.new-printer.ensures.form begun.printed (w.in-Ok.ensures.added _ _ _ made.sound) (rw w.subject.ensures at w.finish-is_bad.ensures) in
          rw (w.rows-is, w.is_bad-is) written.1
      | in-Err-add_rows w ↦ rw w.is_bad-is tt
    ])

pub returns-clause-cause : goal.returns-clause-cause
returns-clause-cause g c =
    let begun = c.in_default.ensures in
    let made = c.new-rows.ensures in
    rw (c.into_inner.ensures, ← c.new-printer.ensures.out) (elim c.match-add_rows.branch [
      | in-Ok w ↦ rw (w.rows-is, w.is_bad-is) (omega (arith, begun.cause, rw made.printer at w.in-Ok.ensures.cause, w.finish-is_bad.ensures.cause))
      | in-Err-add_rows w ↦ rw (w.rows-is, w.is_bad-is) (omega (arith, begun.cause, rw (made.printer, w.in-Err-add_rows.is) at c.add_rows.ensures.cause))
    ])

pub returns-in-Err-clause-part : goal.returns-in-Err-clause-part
returns-in-Err-clause-part g c =
    let stopped = rw (c.in-Err.is, c.new-printer.ensures.out, c.new-printer.ensures.form) at c.print_heading.ensures.stopped in
    stopped_heading (g.W.Sink.contents c.args.out) (g.W.Sink.contents c.print_heading.new.printer.out) c.args.form c.args.request c.args.self.now stopped
