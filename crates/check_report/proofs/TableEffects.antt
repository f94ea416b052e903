-- Tables that are measured, and then printed.
use Rattle.std.proofs.Common.{◌≡◌, ◌∙◌, ℕ, ◌<◌, List, [], ◌∷◌, ◌++◌, Bool, true, false, length, Ok, Err, map, refl, ap, arith, subst}
use Rattle.std.specs.Prelude.{IsErrAnd, OnErr, OnOk, Result, Some, if◌then◌else◌}
use Rattle.std.specs.Io.KnownBytes.{Appends}
use Rattle.std.proofs.lemmas.List.{map-append}
use Rattle.flash_device.specs.Device.{AppendsPart}
use Rattle.check_report.specs.declared.rows.row.Verdict.TheVariants as verdicts
use Rattle.std.specs.List.{flat_map}
use Rattle.std.proofs.KnownBytes.{Appends-nil, Appends-trans}
use Rattle.flash_device.specs.declared.sink.Sink.{Ghosts as SinkOf}
use Rattle.check_report.specs.declared.fault.WriteFault.{WriteFault}
use Rattle.check_report.specs.declared.fault.WriteFault.TheVariants as writes
use Rattle.check_report.specs.declared.rows.form.Colours.{Colours}
use Rattle.check_report.specs.declared.rows.form.LineForm.TheVariants as forms
use Rattle.check_report.specs.declared.rows.printer.Printer.{Printer}
use Rattle.check_report.specs.declared.rows.writer.RowWriter.{RowWriter}
use Rattle.check_report.specs.declared.rows.writer.Selection.{Selection}
use Rattle.check_report.specs.Effects.{Adds, HasWritten, PrintsLines, Puts}
use Rattle.check_report.specs.Fields.{Line}
use Rattle.check_report.specs.Reports.{follows_after, text_of_line}
use Rattle.check_report.specs.Rows.{SeenRow, counts_of, report_rows, row_line, rows_by_verdict, selected, selected_lines, shown_lines}
use Rattle.check_report.specs.Tables.{has_lines, heading_if, table, table_line, widths}
use Rattle.check_report.proofs.Prefixes.{part_after, part_of_more, prefix_after, prefix_none, prefix_of_more}
use Rattle.check_report.proofs.PrinterEffects.{has_lines_both, lines_of, printed_prefix, prints_lines}
use Rattle.check_report.proofs.SoundRows.{limited, more_lines, part_of_selected}

-- ---- bytes in a sink

pub puts_after : {W : Type 0} (sink : SinkOf W) (result : Result (Unit {0}) WriteFault) (old mid new : W) (xs ys : List ℕ) → Puts sink (Ok tt) old mid xs → Puts sink result mid new ys → Puts sink result old new (xs ++ ys)
puts_after sink (Ok u) old mid new xs ys first more = record {
  put = Appends-trans (sink.contents old) (sink.contents mid) (sink.contents new) xs ys first.put more.put;
  stopped = tt;
  cause = omega (arith, first.cause, more.cause);
}
puts_after sink (Err e) old mid new xs ys first failed = record {
  put = tt;
  stopped = prefix_after (sink.contents old) (sink.contents mid) (sink.contents new) xs ys first.put failed.stopped;
  cause = omega (arith, first.cause, failed.cause);
}

pub puts_before : {W : Type 0} (sink : SinkOf W) (e : WriteFault) (old new : W) (xs ys : List ℕ) → Puts sink (Err e) old new xs → Puts sink (Err e) old new (xs ++ ys)
puts_before sink e old new xs ys failed = record {
  put = tt;
  stopped = prefix_of_more (sink.contents old) (sink.contents new) xs ys failed.stopped;
  cause = failed.cause;
}

pub puts_failed : {W : Type 0} (sink : SinkOf W) (result : Result (Unit {0}) WriteFault) (old new : W) (e : WriteFault) (xs : List ℕ) → IsErrAnd result (λ fault. fault ≡ e)
    → Puts sink (Err e) old new xs → Puts sink result old new xs
puts_failed sink (Ok u) old new e xs told p = absurd told
puts_failed sink (Err fault) old new e xs told p = rw told p

-- a fault before the first byte
pub puts_nothing : {W : Type 0} (sink : SinkOf W) (result : Result (Unit {0}) WriteFault) (old new : W) (xs : List ℕ) → IsErrAnd result (λ fault. fault ≡ writes.Memory) → new ≡ old → Puts sink result old new xs
puts_nothing sink result old new xs told same = puts_failed sink result old new writes.Memory xs told (record {
  put = tt;
  stopped = rw same (prefix_none (sink.contents old) xs);
  cause = rw same (omega arith);
})

pub puts_none : {W : Type 0} (sink : SinkOf W) (p : W) → Puts sink (Ok tt) p p []
puts_none sink p = record { put = Appends-nil (sink.contents p); stopped = tt; cause = omega arith }

-- ---- a table

-- a ruler prints no line
nothing : (lines : List Line) → flat_map (text_of_line forms.Ruler) lines ≡ []
nothing [] = refl
nothing (line ∷ lines) = nothing lines

followed : (lines : List Line) → follows_after false lines ≡ has_lines lines
followed [] = refl
followed (line ∷ lines) = refl

module _ {W : Type 0} (sink : SinkOf W) (colours : Colours) (heading : List (List ℕ)) (lines : List Line) (ruler measured : Printer W) where
  ruled : ruler.form ≡ forms.Ruler → PrintsLines sink (Ok tt) ruler measured lines → Puts sink (Ok tt) ruler.out measured.out []
  ruled form p = record { put = rw (form, nothing lines) at p.prints.printed.text; stopped = tt; cause = p.prints.cause }

  pub table_unmeasured : (e : WriteFault) → ruler.form ≡ forms.Ruler → PrintsLines sink (Err e) ruler measured lines → Puts sink (Err e) ruler.out measured.out (table colours heading lines)
  table_unmeasured e form p = puts_before sink e ruler.out measured.out [] (table colours heading lines)
      (record { put = tt; stopped = rw (form, nothing lines) at p.prints.stopped; cause = p.prints.cause })

  -- the widths and the flag after the lines are measured
  measured_widths : ruler.widths.items ≡ map length heading → ruler.form ≡ forms.Ruler → PrintsLines sink (Ok tt) ruler measured lines → measured.widths.items ≡ widths heading lines
  measured_widths is form p = rw (form, is) at p.widths

  measured_follows : ruler.follows ≡ false → PrintsLines sink (Ok tt) ruler measured lines → measured.follows ≡ has_lines lines
  measured_follows is p = (rw is at p.prints.printed.follows) ∙ followed lines

  module _ (drawn : Printer W) where
    -- the heading after the measured lines
    table_heading : (result : Result (Unit {0}) WriteFault) → ruler.form ≡ forms.Ruler → ruler.follows ≡ false → ruler.widths.items ≡ map length heading
        → PrintsLines sink (Ok tt) ruler measured lines → Puts sink result measured.out drawn.out (heading_if measured.follows measured.widths.items heading)
        → Puts sink result ruler.out drawn.out (heading_if (has_lines lines) (widths heading lines) heading)
    table_heading result form follows is first drew =
        puts_after sink result ruler.out measured.out drawn.out [] _ (ruled form first) (rw (measured_follows follows first, measured_widths is form first) at drew)

    pub table_undrawn : (e : WriteFault) → ruler.form ≡ forms.Ruler → ruler.follows ≡ false → ruler.widths.items ≡ map length heading
        → PrintsLines sink (Ok tt) ruler measured lines → Puts sink (Err e) measured.out drawn.out (heading_if measured.follows measured.widths.items heading)
        → Puts sink (Err e) ruler.out drawn.out (table colours heading lines)
    table_undrawn e form follows is first drew = puts_before sink e ruler.out drawn.out _ _ (table_heading (Err e) form follows is first drew)

    module _ (new : Printer W) where
      drawn_lines : (result : Result (Unit {0}) WriteFault) → drawn.form ≡ forms.Table (record { colours = colours; widths = measured.widths })
          → PrintsLines sink result drawn new lines → Puts sink result drawn.out new.out (flat_map (text_of_line (forms.Table (record { colours = colours; widths = measured.widths }))) lines)
      drawn_lines (Ok u) form p = record { put = rw form at p.prints.printed.text; stopped = tt; cause = p.prints.cause }
      drawn_lines (Err e) form p = record { put = tt; stopped = rw form at p.prints.stopped; cause = p.prints.cause }

      pub table_puts : (result : Result (Unit {0}) WriteFault) → ruler.form ≡ forms.Ruler → ruler.follows ≡ false → ruler.widths.items ≡ map length heading
          → PrintsLines sink (Ok tt) ruler measured lines → Puts sink (Ok tt) measured.out drawn.out (heading_if measured.follows measured.widths.items heading)
          → drawn.form ≡ forms.Table (record { colours = colours; widths = measured.widths }) → PrintsLines sink result drawn new lines
          → Puts sink result ruler.out new.out (table colours heading lines)
      table_puts result form follows is first drew drawn_form more =
          puts_after sink result ruler.out drawn.out new.out _ _ (table_heading (Ok tt) form follows is first drew)
          (subst (λ ws. Puts sink result drawn.out new.out (flat_map (table_line colours ws) lines)) (measured_widths is form first) (drawn_lines result drawn_form more))

-- ---- the rows of a verdict

module _ {W : Type 0} (sink : SinkOf W) (s : Selection) (rows : List SeenRow) (old : Printer W) (begun added : RowWriter W) where
  -- a fault in the rows
  pub verdict_stopped : (e : WriteFault) → HasWritten sink old s [] begun → begun.printer ≡ old → Adds sink (Err e) begun added rows → PrintsLines sink (Err e) old added.printer (selected_lines s rows)
  verdict_stopped e start same failed = record {
    prints = record {
      printed = tt;
      stopped = part_of_selected sink old s rows added (failed.stopped old s [] start);
      cause = rw same at failed.cause;
    };
    widths = tt;
  }

  -- the rows, and those for hidden rows
  pub verdict_printed : (result : Result (Unit {0}) WriteFault) (new : Printer W) → HasWritten sink old s [] begun → begun.printer ≡ old → Adds sink (Ok tt) begun added rows
      → PrintsLines sink result added.printer new (more_lines added.selection added.kinds.items) → PrintsLines sink result old new (selected_lines s rows)
  verdict_printed (Ok u) new start same adds more =
      let written : HasWritten sink old s rows added = adds.added old s [] start in
      rw (← limited s rows added.kinds.items written.kinds) (prints_lines sink old new _
      (has_lines_both sink old added.printer new (shown_lines s rows) (more_lines s added.kinds.items) written.lines (rw written.same at (lines_of sink added.printer new _ more)))
      (omega (arith, rw same at adds.cause, more.prints.cause)))
  verdict_printed (Err e) new start same adds failed =
      let written : HasWritten sink old s rows added = adds.added old s [] start in
      rw (← limited s rows added.kinds.items written.kinds) (record {
        prints = record {
          printed = tt;
          stopped = printed_prefix sink old added.printer (sink.contents new.out) old.follows (shown_lines s rows) (more_lines s added.kinds.items) written.lines.printed (rw written.same at failed.prints.stopped);
          cause = omega (arith, rw same at adds.cause, failed.prints.cause);
        };
        widths = tt;
      })

  pub verdict_counts : HasWritten sink old s [] begun → Adds sink (Ok tt) begun added rows → added.counts ≡ counts_of rows
  verdict_counts start adds = (adds.added old s [] start).counts

-- the lines by verdict
pub verdict_lines : (is_verbose : Bool) (rows : List SeenRow) → map row_line (rows_by_verdict is_verbose rows)
    ≡ (selected_lines (record { is_verbose = is_verbose; only = Some verdicts.Bad }) rows ++ selected_lines (record { is_verbose = is_verbose; only = Some verdicts.Change }) rows)
    ++ (if is_verbose then selected_lines (record { is_verbose = is_verbose; only = Some verdicts.Remark }) rows else [])
verdict_lines true rows = let all : List SeenRow = report_rows true rows in
    map-append row_line (selected (Some verdicts.Bad) all ++ selected (Some verdicts.Change) all) (selected (Some verdicts.Remark) all)
    ∙ ap (λ l. l ++ map row_line (selected (Some verdicts.Remark) all)) (map-append row_line (selected (Some verdicts.Bad) all) (selected (Some verdicts.Change) all))
verdict_lines false rows = let all : List SeenRow = report_rows false rows in
    map-append row_line (selected (Some verdicts.Bad) all ++ selected (Some verdicts.Change) all) []
    ∙ ap (λ l. l ++ []) (map-append row_line (selected (Some verdicts.Bad) all) (selected (Some verdicts.Change) all))

-- ---- the lines after the tables

pub on_ok : {P : Type 0} (result : Result (Unit {0}) WriteFault) → P → OnOk result P
on_ok (Ok u) p = p
on_ok (Err e) p = tt

pub closed : {W : Type 0} (sink : SinkOf W) (result : Result Bool WriteFault) (start mid new : W) (tables end : List ℕ) → Puts sink (Ok tt) start mid tables
    → OnOk result (Appends (sink.contents mid) (sink.contents new) end) → OnErr result (AppendsPart (sink.contents mid) (sink.contents new) end)
    → OnOk result (Appends (sink.contents start) (sink.contents new) (tables ++ end)) × OnErr result (AppendsPart (sink.contents start) (sink.contents new) (tables ++ end))
closed sink (Ok b) start mid new tables end first whole part = (Appends-trans (sink.contents start) (sink.contents mid) (sink.contents new) tables end first.put whole, tt)
closed sink (Err e) start mid new tables end first whole part = (tt, part_after (sink.contents start) (sink.contents mid) (sink.contents new) tables end first.put part)

pub unclosed : {W : Type 0} (sink : SinkOf W) (e : WriteFault) (start mid : W) (tables end : List ℕ) → 0 < length end → Puts sink (Err e) start mid tables
    → AppendsPart (sink.contents start) (sink.contents mid) (tables ++ end)
unclosed sink e start mid tables end some failed = part_of_more (sink.contents start) (sink.contents mid) tables end some failed.stopped
