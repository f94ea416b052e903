-- A writer after another row, and at the end.
use Rattle.std.proofs.Common.{◌≡◌, ◌∙◌, ℕ, ◌+◌, ◌<◌, get_or, length, length-append, take, drop, arith, nat_lt, List, [], ◌∷◌, ◌++◌, map, Bool, true, false, refl, ap, sym, append-nil, append_assoc}
use Rattle.std.specs.Prelude.{◌||◌, ◌&&◌, count_by, if◌then◌else◌, None, Option, Result, Ok, Err, IsErrAnd, OnErr, OnOk}
use Rattle.std.specs.List.{flat_map, list_any}
use Rattle.std.specs.Io.KnownBytes.{Appends}
use Rattle.std.proofs.lemmas.Grind.{flat_map-append}
use Rattle.std.proofs.lemmas.List.Concat.{flat_map-cons}
use Rattle.std.proofs.lemmas.List.{map-append, take_more}
use Rattle.std.proofs.lemmas.List.Elements.{filter-append}
use Rattle.std.proofs.KnownBytes.{Appends-trans}
use Rattle.flash_device.specs.Device.{AppendsPart}
use Rattle.flash_device.specs.declared.sink.Sink.{Ghosts as SinkOf}
use Rattle.check_report.specs.declared.fault.WriteFault.{WriteFault}
use Rattle.check_report.specs.declared.fault.WriteFault.TheVariants as writes
use Rattle.check_report.specs.declared.rows.kinds.Kind.{Kind}
use Rattle.check_report.specs.declared.rows.conclusion.Subject.{Subject}
use Rattle.check_report.specs.declared.rows.kinds.Counts.{Counts}
use Rattle.check_report.specs.declared.rows.printer.Printer.{Printer}
use Rattle.check_report.specs.declared.rows.writer.RowWriter.{RowWriter}
use Rattle.check_report.specs.declared.rows.row.Verdict.{Verdict}
use Rattle.check_report.specs.declared.rows.row.Verdict.TheVariants.{Bad}
use Rattle.check_report.specs.declared.rows.form.LineForm.{LineForm}
use Rattle.check_report.specs.declared.rows.writer.Selection.{Selection}
use Rattle.check_report.specs.Fields.{Line}
use Rattle.check_report.specs.Rows.{SeenRow, conclusion_of, counts_of, has_bad, has_verdict, is_like, is_selected, kinds_of, more_of, report_lines, report_rows, row_line, rows_by, seen_kind, selected, selected_lines, shown_lines, shown_rows}
use Rattle.check_findings.specs.Lists.{only_if}
use Rattle.check_report.specs.Reports.{ending, heading, parts, subject_of}
use Rattle.check_report.specs.Reports.{inspection_rows, lines_report, listed}
use Rattle.check_report.specs.declared.request.Request.{Request}
use Rattle.check_report.specs.declared.inspection.Inspection.{Inspection}
use Rattle.flash_device.specs.Pages.{Returns}
use Rattle.check_report.specs.Effects.{Adds, AppendsPrefix, Ends, HasLines, HasPartOf, HasPrinted, HasWritten, PrintsLines}
use Rattle.check_report.proofs.RowCounts.{push_by, rows_by-append, some_bad}
use Rattle.check_report.proofs.Prefixes.{part_after, part_of_more, prefix_all}
use Rattle.check_report.proofs.PrinterEffects.{flat_map_at, has_lines_both, has_no_lines, lines_of, map_at, prefix_of_lines, printed_prefix}
use Rattle.check_report.proofs.ReportParts.{some_ending, whole}

pub sound_empty : {W : Type 0} (sink : SinkOf W) (w : RowWriter W) → w.kinds.items ≡ [] → w.counts ≡ counts_of [] → HasWritten sink w.printer w.selection [] w
sound_empty sink w kinds counts = record {
  same = refl;
  kinds = ap (map seen_kind) kinds;
  counts = counts;
  lines = has_no_lines sink w.printer;
}

-- ---- selected rows

-- all rows
pub selected_all : (rows : List SeenRow) → selected None rows ≡ rows
selected_all [] = refl
selected_all (row ∷ rows) = ap (λ rows. row ∷ rows) (selected_all rows)

selected_lines-all : (v : Bool) (rows : List SeenRow) → selected_lines (record { is_verbose = v; only = None }) rows ≡ report_lines v rows
selected_lines-all v rows = ap (map row_line) (selected_all (report_rows v rows))

-- a row that may be shown
selected_if : (only : Option Verdict) (shown : Bool) (row : SeenRow) → selected only (only_if shown row) ≡ only_if (is_selected only row && shown) row
selected_if only shown row = go shown (is_selected only row) refl
  where
    go : (shown fits : Bool) → is_selected only row ≡ fits → selected only (only_if shown row) ≡ only_if (fits && shown) row
    go true true is = rw is refl
    go true false is = rw is refl
    go false true is = refl
    go false false is = refl

selected-append : (only : Option Verdict) (xs ys : List SeenRow) → map row_line (selected only (xs ++ ys)) ≡ map row_line (selected only xs) ++ map row_line (selected only ys)
selected-append only xs ys = ap (map row_line) (filter-append (is_selected only) xs ys) ∙ map-append row_line (selected only xs) (selected only ys)

-- ---- rows that are printed in part

shown_append : (s : Selection) (rows more : List SeenRow)
    → shown_lines s (rows ++ more) ≡ shown_lines s rows ++ map row_line (selected s.only (rows_by (λ n. s.is_verbose || nat_lt n 16) rows more))
shown_append s rows more = ap (λ l. map row_line (selected s.only l)) (rows_by-append (λ n. s.is_verbose || nat_lt n 16) [] rows more) ∙ selected-append s.only (shown_rows s.is_verbose rows) _

all_of : {W : Type 0} (sink : SinkOf W) (start : Printer W) (s : Selection) (rows : List SeenRow) (w : RowWriter W) → HasWritten sink start s rows w → HasPartOf sink start s rows w
all_of sink start s rows w written = prefix_all (sink.contents start.out) (sink.contents w.printer.out) _ written.lines.printed.text

-- a part of the first rows
pub part_of_rows : {W : Type 0} (sink : SinkOf W) (start : Printer W) (s : Selection) (rows more : List SeenRow) (w : RowWriter W)
    → HasPartOf sink start s rows w → HasPartOf sink start s (rows ++ more) w
part_of_rows sink start s rows more w part =
    rw (shown_append s rows more) (prefix_of_lines (sink.contents start.out) (sink.contents w.printer.out) start.form start.follows (shown_lines s rows) _ part)

-- no further row
pub part_of_all : {W : Type 0} (sink : SinkOf W) (start : Printer W) (s : Selection) (rows more : List SeenRow) (old new : RowWriter W)
    → new.printer ≡ old.printer → HasWritten sink start s rows old → HasPartOf sink start s (rows ++ more) new
part_of_all sink start s rows more old new same written =
    part_of_rows sink start s rows more new (rw same (all_of sink start s rows old written))

row_lines : (s : Selection) (rows : List SeenRow) (row : SeenRow)
    → shown_lines s (rows ++ row ∷ []) ≡ shown_lines s rows ++ map row_line (only_if (is_selected s.only row && (s.is_verbose || nat_lt (count_by (is_like row) rows) 16)) row)
row_lines s rows row =
    let shown : Bool = s.is_verbose || nat_lt (count_by (is_like row) rows) 16 in
    ap (λ l. map row_line (selected s.only l)) (push_by (λ n. s.is_verbose || nat_lt n 16) [] rows row) ∙ selected-append s.only (shown_rows s.is_verbose rows) (only_if shown row)
    ∙ ap (λ l. shown_lines s rows ++ map row_line l) (selected_if s.only shown row)

-- another row
pub adds_row : {W : Type 0} (sink : SinkOf W) (result : Result (Unit {0}) WriteFault) (old new : RowWriter W) (row : SeenRow) (n : ℕ)
    → new.selection ≡ old.selection
    → ((rows : List SeenRow) → map seen_kind old.kinds.items ≡ kinds_of rows → (n ≡ count_by (is_like row) rows) × (map seen_kind new.kinds.items ≡ kinds_of (rows ++ row ∷ [])))
    → ((rows : List SeenRow) → old.counts ≡ counts_of rows → new.counts ≡ counts_of (rows ++ row ∷ []))
    → PrintsLines sink result old.printer new.printer (map row_line (only_if (is_selected old.selection.only row && (old.selection.is_verbose || nat_lt n 16)) row))
    → Adds sink result old new (row ∷ [])
adds_row sink (Err e) old new row n same kinds counts p = record {
  added = tt;
  stopped = λ start s rows (written : HasWritten sink start s rows old).
      rw (row_lines s rows row) (printed_prefix sink start old.printer (sink.contents new.printer.out) start.follows (shown_lines s rows) _
      written.lines.printed (rw (written.same, (kinds rows written.kinds).0) at p.prints.stopped));
  cause = p.prints.cause;
}
adds_row sink (Ok u) old new row n same kinds counts p = record {
  added = λ start s rows (written : HasWritten sink start s rows old).
      record {
        same = same ∙ written.same;
        kinds = (kinds rows written.kinds).1;
        counts = counts rows written.counts;
        lines = rw (row_lines s rows row) (has_lines_both sink start old.printer new.printer (shown_lines s rows) _ written.lines
            (rw (written.same, (kinds rows written.kinds).0) at (lines_of sink old.printer new.printer _ p)));
      };
  stopped = tt;
  cause = p.prints.cause;
}

-- ---- the rows for hidden rows

-- the lines for the hidden rows of each selected kind
abbrev pub more_lines : Selection → List Kind → List Line
more_lines s ks = flat_map (λ k. map row_line (selected s.only (more_of (seen_kind k)))) (if s.is_verbose then [] else ks)

pub selected_more : (only : Option Verdict) (row : SeenRow) (b : Bool) → map row_line (only_if (is_selected only row && b) row) ≡ map row_line (selected only (only_if b row))
selected_more only row b = ap (map row_line) (sym (selected_if only b row))

more_of_kinds : (only : Option Verdict) (ks : List Kind) → flat_map (λ k. map row_line (selected only (more_of (seen_kind k)))) ks ≡ map row_line (selected only (flat_map more_of (map seen_kind ks)))
more_of_kinds only [] = refl
more_of_kinds only (k ∷ ks) = ap (λ l. map row_line (selected only (more_of (seen_kind k))) ++ l) (more_of_kinds only ks)
    ∙ sym (selected-append only (more_of (seen_kind k)) (flat_map more_of (map seen_kind ks)))

-- the rows for hidden rows follow the shown rows
limited_by : (v : Bool) (only : Option Verdict) (rows : List SeenRow) (ks : List Kind) → map seen_kind ks ≡ kinds_of rows
    → map row_line (selected only (shown_rows v rows)) ++ flat_map (λ k. map row_line (selected only (more_of (seen_kind k)))) (if v then [] else ks) ≡ map row_line (selected only (report_rows v rows))
limited_by true only rows ks is = append-nil _ ∙ ap (λ l. map row_line (selected only l)) (sym (append-nil (shown_rows true rows)))
limited_by false only rows ks is =
    ap (λ l. map row_line (selected only (shown_rows false rows)) ++ l) (more_of_kinds only ks ∙ ap (λ l. map row_line (selected only (flat_map more_of l))) is)
    ∙ sym (selected-append only (shown_rows false rows) (flat_map more_of (kinds_of rows)))

pub limited : (s : Selection) (rows : List SeenRow) (ks : List Kind) → map seen_kind ks ≡ kinds_of rows → shown_lines s rows ++ more_lines s ks ≡ selected_lines s rows
limited s rows ks is = limited_by s.is_verbose s.only rows ks is

-- the end of a report
pub sound_end : {W : Type 0} (sink : SinkOf W) (subject : Subject) (w : RowWriter W) (mid out : Printer W) → HasLines sink w.printer mid (more_lines w.selection w.kinds.items)
    → Appends (sink.contents mid.out) (sink.contents out.out) (ending mid.form (record { subject = subject; counts = w.counts })) → (start : Printer W) (s : Selection) (rows : List SeenRow) → HasWritten sink start s rows w
    → (nat_lt 0 w.counts.bad ≡ list_any (has_verdict Bad) rows)
    × Appends (sink.contents start.out) (sink.contents out.out) (parts start.form start.follows (selected_lines s rows) ++ ending start.form (conclusion_of subject rows))
sound_end sink subject w mid out more end start s rows written =
    let all = has_lines_both sink start w.printer mid (shown_lines s rows) _ written.lines (rw written.same at more) in
    (ap (λ (c : Counts). nat_lt 0 c.bad) written.counts ∙ some_bad (has_verdict Bad) rows, rw (← limited s rows w.kinds.items written.kinds) (Appends-trans _ _ _ _ _ all.printed.text (rw (all.printed.form, written.counts) at end)))

-- a part of the shown rows is a part of the selected rows
pub part_of_selected : {W : Type 0} (sink : SinkOf W) (start : Printer W) (s : Selection) (rows : List SeenRow) (w : RowWriter W)
    → HasPartOf sink start s rows w → AppendsPrefix (sink.contents start.out) (sink.contents w.printer.out) (parts start.form start.follows (selected_lines s rows))
part_of_selected sink start s rows w part =
    let more : List SeenRow = flat_map more_of (if s.is_verbose then [] else kinds_of rows) in
    rw (selected-append s.only (shown_rows s.is_verbose rows) more) (prefix_of_lines (sink.contents start.out) (sink.contents w.printer.out) start.form start.follows (shown_lines s rows) (map row_line (selected s.only more)) part)

-- a part of the rows is a part of the report from the rows on
part_of_report : {W : Type 0} (sink : SinkOf W) (subject : Subject) (start : Printer W) (s : Selection) (rows : List SeenRow) (w : RowWriter W)
    → HasPartOf sink start s rows w → AppendsPart (sink.contents start.out) (sink.contents w.printer.out) (parts start.form start.follows (selected_lines s rows) ++ ending start.form (conclusion_of subject rows))
part_of_report sink subject start s rows w part =
    part_of_more (sink.contents start.out) (sink.contents w.printer.out) (parts start.form start.follows (selected_lines s rows)) _ (some_ending start.form (conclusion_of subject rows))
    (part_of_selected sink start s rows w part)

-- no ending after a fault in the rows for hidden rows
pub stopped_more : {W : Type 0} (sink : SinkOf W) (subject : Subject) (w : RowWriter W) (mid : Printer W)
    → AppendsPrefix (sink.contents w.printer.out) (sink.contents mid.out) (parts w.printer.form w.printer.follows (more_lines w.selection w.kinds.items))
    → (start : Printer W) (s : Selection) (rows : List SeenRow) → HasWritten sink start s rows w
    → AppendsPart (sink.contents start.out) (sink.contents mid.out) (parts start.form start.follows (selected_lines s rows) ++ ending start.form (conclusion_of subject rows))
stopped_more sink subject w mid more start s rows written =
    let printed : AppendsPrefix (sink.contents start.out) (sink.contents mid.out) (parts start.form start.follows (shown_lines s rows ++ more_lines s w.kinds.items)) =
    printed_prefix sink start w.printer (sink.contents mid.out) start.follows (shown_lines s rows) (more_lines s w.kinds.items) written.lines.printed (rw written.same at more) in
    part_of_more (sink.contents start.out) (sink.contents mid.out) (parts start.form start.follows (selected_lines s rows)) (ending start.form (conclusion_of subject rows)) (some_ending start.form (conclusion_of subject rows))
    (rw (limited s rows w.kinds.items written.kinds) at printed)

-- a part of the ending
pub stopped_end : {W : Type 0} (sink : SinkOf W) (subject : Subject) (w : RowWriter W) (mid out : Printer W) → HasLines sink w.printer mid (more_lines w.selection w.kinds.items)
    → AppendsPart (sink.contents mid.out) (sink.contents out.out) (ending mid.form (record { subject = subject; counts = w.counts })) → (start : Printer W) (s : Selection) (rows : List SeenRow) → HasWritten sink start s rows w
    → AppendsPart (sink.contents start.out) (sink.contents out.out) (parts start.form start.follows (selected_lines s rows) ++ ending start.form (conclusion_of subject rows))
stopped_end sink subject w mid out more end start s rows written =
    let all = has_lines_both sink start w.printer mid (shown_lines s rows) _ written.lines (rw written.same at more) in
    rw (← limited s rows w.kinds.items written.kinds) (part_after (sink.contents start.out) (sink.contents mid.out) (sink.contents out.out) _ _ all.printed.text (rw (all.printed.form, written.counts) at end))

pub ends_failed : {W : Type 0} {sink : SinkOf W} {subject : Subject} {result : Result Bool WriteFault} {old new : RowWriter W} {e : WriteFault} → IsErrAnd result (λ fault. fault ≡ e)
    → Ends sink subject (Err e) old new → Ends sink subject result old new
ends_failed {result = Ok b} told a = absurd told
ends_failed {result = Err fault} told a = rw told a

-- the selection of a report by lines
abbrev all_rows : Request → Selection
all_rows r = record { is_verbose = r.asked.is_verbose; only = None }

-- the heading, the rows and the ending
report_parts : (f : LineForm) (r : Request) (i : Inspection) → let rows = inspection_rows r i in
    heading f r.files (listed r i) ++ (parts f false (selected_lines (all_rows r) rows) ++ ending f (conclusion_of (subject_of r) rows)) ≡ lines_report f r i
unfolding lines_report
report_parts f r i = let rows = inspection_rows r i in
    rw (selected_lines-all r.asked.is_verbose rows) (whole f r.files (listed r i) (report_lines r.asked.is_verbose rows) (conclusion_of (subject_of r) rows))

-- a proper part of the report after its heading
rest_of_report : {W : Type 0} (sink : SinkOf W) (first begun : Printer W) (after : Option (List ℕ)) (f : LineForm) (r : Request) (i : Inspection)
    → first.form ≡ f → HasPrinted sink first begun (heading first.form r.files (listed r i)) false
    → let rows = inspection_rows r i in
    AppendsPart (sink.contents begun.out) after (parts begun.form begun.follows (selected_lines (all_rows r) rows) ++ ending begun.form (conclusion_of (subject_of r) rows))
    → AppendsPart (sink.contents first.out) after (lines_report f r i)
rest_of_report sink first begun after f r i form before rest =
    rw (← report_parts f r i) (part_after (sink.contents first.out) (sink.contents begun.out) after _ _ (rw form at before.text) (rw (before.follows, before.form, form) at rest))

pub report_text : {W : Type 0} (sink : SinkOf W) (result : Result Bool WriteFault) (first begun : Printer W) (made last : RowWriter W) (f : LineForm) (r : Request) (i : Inspection)
    → first.form ≡ f → HasPrinted sink first begun (heading first.form r.files (listed r i)) false → HasWritten sink begun (all_rows r) (inspection_rows r i) made → Ends sink (subject_of r) result made last
    → Returns result (has_bad (inspection_rows r i)) × OnOk result (Appends (sink.contents first.out) (sink.contents last.printer.out) (lines_report f r i))
    × OnErr result (AppendsPart (sink.contents first.out) (sink.contents last.printer.out) (lines_report f r i))
report_text sink (Err e) first begun made last f r i form before sound ends =
    (tt, tt, rest_of_report sink first begun (sink.contents last.printer.out) f r i form before (ends.stopped begun (all_rows r) (inspection_rows r i) sound))
report_text sink (Ok b) first begun made last f r i form before sound ends =
    let all = ends.ended begun (all_rows r) (inspection_rows r i) sound in (
      all.0,
      rw (← report_parts f r i)
          (Appends-trans (sink.contents first.out) (sink.contents begun.out) (sink.contents last.printer.out) _ _ (rw form at before.text) (rw (before.follows, before.form, form) at all.1)),
      tt,
    )

-- a fault in the heading
pub stopped_heading : (before after : Option (List ℕ)) (f : LineForm) (r : Request) (i : Inspection) → AppendsPrefix before after (heading f r.files (listed r i)) → AppendsPart before after (lines_report f r i)
stopped_heading before after f r i part =
    let rows = inspection_rows r i in
    let lines : List ℕ = parts f false (selected_lines (all_rows r) rows) in
    rw (← report_parts f r i) (part_of_more before after _ _ (omega (arith, length-append lines (ending f (conclusion_of (subject_of r) rows)), some_ending f (conclusion_of (subject_of r) rows))) part)

-- a fault in the rows
pub stopped_rows : {W : Type 0} (sink : SinkOf W) (first begun : Printer W) (last : RowWriter W) (f : LineForm) (r : Request) (i : Inspection)
    → first.form ≡ f → HasPrinted sink first begun (heading first.form r.files (listed r i)) false → HasPartOf sink begun (all_rows r) (inspection_rows r i) last
    → AppendsPart (sink.contents first.out) (sink.contents last.printer.out) (lines_report f r i)
stopped_rows sink first begun last f r i form before part =
    rest_of_report sink first begun (sink.contents last.printer.out) f r i form before (part_of_report sink (subject_of r) begun (all_rows r) (inspection_rows r i) last part)

-- ---- rows after rows

pub adds_after : {W : Type 0} {sink : SinkOf W} {result : Result (Unit {0}) WriteFault} {old mid new : RowWriter W} {xs ys : List SeenRow}
    → Adds sink (Ok tt) old mid xs → Adds sink result mid new ys → Adds sink result old new (xs ++ ys)
adds_after {result = Err e} {xs = xs} {ys = ys} a b = record {
  added = tt;
  stopped = λ start v rows s. rw (append_assoc rows xs ys) at (b.stopped start v (rows ++ xs) (a.added start v rows s));
  cause = omega (arith, a.cause, b.cause);
}
adds_after {result = Ok u} a b = record {
  added = λ start v rows s. rw append_assoc at (b.added start v _ (a.added start v rows s));
  stopped = tt;
  cause = omega (arith, a.cause, b.cause);
}

-- the rows of another element
pub adds_then : {W X : Type 0} {sink : SinkOf W} {first old new : RowWriter W} (f : X → List SeenRow) (xs : List X) (i : ℕ) (d x : X)
    → i < length xs → x ≡ get_or xs i d → Adds sink (Ok tt) first old (flat_map f (take i xs)) → Adds sink (Ok tt) old new (f x)
    → Adds sink (Ok tt) first new (flat_map f (take (i + 1) xs))
adds_then f xs i d x lt is so_far more =
    rw (take_more xs i d lt, ← is, flat_map-append f (take i xs) (x ∷ []), flat_map-cons f x [], append-nil (f x)) (adds_after so_far more)

-- ---- after a fault

-- a fault before the first row
pub adds_none : {W : Type 0} {sink : SinkOf W} {old new : RowWriter W} {e : WriteFault} {xs : List SeenRow} → e ≡ writes.Memory → new.printer ≡ old.printer
    → Adds sink (Err e) old new xs
adds_none {sink = sink} {old = old} {new = new} {xs = xs} memory same = record {
  added = tt;
  stopped = λ start v rows s. part_of_all sink start v rows xs old new same s;
  cause = rw (memory, same) (omega arith);
}

-- the fault of a call is the function's
pub adds_failed : {W : Type 0} {sink : SinkOf W} {result : Result (Unit {0}) WriteFault} {old new : RowWriter W} {e : WriteFault} {xs : List SeenRow} → IsErrAnd result (λ fault. fault ≡ e)
    → Adds sink (Err e) old new xs → Adds sink result old new xs
adds_failed {result = Ok u} told a = absurd told
adds_failed {result = Err fault} told a = rw told a

-- no row after a fault
pub adds_before : {W : Type 0} {sink : SinkOf W} {old new : RowWriter W} {e : WriteFault} {xs : List SeenRow} (ys : List SeenRow)
    → Adds sink (Err e) old new xs → Adds sink (Err e) old new (xs ++ ys)
adds_before {sink = sink} {old = old} {new = new} {xs = xs} ys a = record {
  added = tt;
  stopped = λ start v rows s. rw (append_assoc rows xs ys) at (part_of_rows sink start v (rows ++ xs) ys new (a.stopped start v rows s));
  cause = a.cause;
}

-- no row of a later element
pub adds_stopped : {W X : Type 0} {sink : SinkOf W} {first old new : RowWriter W} {e : WriteFault} (f : X → List SeenRow) (xs : List X) (i : ℕ) (d x : X)
    → i < length xs → x ≡ get_or xs i d → Adds sink (Ok tt) first old (flat_map f (take i xs)) → Adds sink (Err e) old new (f x)
    → Adds sink (Err e) first new (flat_map f xs)
adds_stopped f xs i d x lt is so_far failed = rw (flat_map_at f xs i d x lt is) (adds_before _ (adds_after so_far failed))

pub adds_stopped_map : {W X : Type 0} {sink : SinkOf W} {first old new : RowWriter W} {e : WriteFault} (f : X → SeenRow) (xs : List X) (i : ℕ) (d x : X)
    → i < length xs → x ≡ get_or xs i d → Adds sink (Ok tt) first old (map f (take i xs)) → Adds sink (Err e) old new (f x ∷ [])
    → Adds sink (Err e) first new (map f xs)
adds_stopped_map f xs i d x lt is so_far failed = rw (map_at f xs i d x lt is) (adds_before _ (adds_after so_far failed))

-- no row of a later element of a mapped list
pub adds_stopped_over : {W X Y : Type 0} {sink : SinkOf W} {first old new : RowWriter W} {e : WriteFault} (g : Y → X) (f : X → List SeenRow) (ys : List Y) (i : ℕ) (d y : Y)
    → i < length ys → y ≡ get_or ys i d → Adds sink (Ok tt) first old (flat_map f (map g (take i ys))) → Adds sink (Err e) old new (f (g y))
    → Adds sink (Err e) first new (flat_map f (map g ys))
adds_stopped_over g f ys i d y lt is so_far failed =
    rw (map_at g ys i d y lt is, flat_map-append f (map g (take i ys) ++ g y ∷ []) (map g (drop (i + 1) ys)), flat_map-append f (map g (take i ys)) (g y ∷ []), flat_map-cons f (g y) [], append-nil (f (g y)))
    (adds_before _ (adds_after so_far failed))
