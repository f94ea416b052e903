use Rattle.std.proofs.Common.{arith}
use Rattle.check_report.proofs.PrinterEffects.{lines_of}
use Rattle.check_report.proofs.SoundRows.{ends_failed, sound_end, stopped_end, stopped_more}
use Rattle.check_report.proofs.rows.writer.RowWriter.finish.Goals as goal

pub returns : goal.returns
returns g c = record {
  ended = rw c.in_ok-more.ensures.counts (sound_end g.W.Sink c.args.subject c.args.self.now c.more.new.self.printer c.end.new.self
      (lines_of g.W.Sink _ _ _ c.in_ok-more.ensures.lines) (rw c.in_ok-more.ensures.counts at c.in_ok-end.ensures.prints.printed.text));
  stopped = tt;
  cause = omega (arith, c.in_ok-more.ensures.lines.prints.cause, c.in_ok-end.ensures.prints.cause);
}

pub returns-in_err-more : goal.returns-in_err-more
returns-in_err-more g c = ends_failed c.from_residual.ensures.1 (record {
  ended = tt;
  stopped = stopped_more g.W.Sink c.args.subject c.args.self.now c.more.new.self.printer c.in_err-more.ensures.lines.prints.stopped;
  cause = c.in_err-more.ensures.lines.prints.cause;
})

pub returns-in_err-end : goal.returns-in_err-end
returns-in_err-end g c = ends_failed c.from_residual-in_err-end.ensures.1 (record {
  ended = tt;
  stopped = stopped_end g.W.Sink c.args.subject c.args.self.now c.more.new.self.printer c.end.new.self
      (lines_of g.W.Sink _ _ _ c.in_ok-more.ensures.lines) (rw c.in_ok-more.ensures.counts at c.in_err-end.ensures.part);
  cause = omega (arith, c.in_ok-more.ensures.lines.prints.cause, c.in_err-end.ensures.prints.cause);
})
