-- The heading with a list, part by part.
use Rattle.std.proofs.Common.{◌≡◌, ◌∙◌, ℕ, sym, Bool, List, [], ◌∷◌, ◌++◌, Ok, Err, false}
use Rattle.std.specs.Prelude.{Result}
use Rattle.std.specs.List.{flat_map}
use Rattle.flash_device.specs.declared.sink.Sink.{Ghosts as SinkOf}
use Rattle.check_report.specs.declared.fault.WriteFault.{WriteFault}
use Rattle.check_report.specs.declared.rows.form.LineForm.{LineForm}
use Rattle.check_report.specs.declared.rows.printer.Printer.{Printer}
use Rattle.check_report.specs.Fields.{Line, SeenField}
use Rattle.check_report.specs.Reports.{follows_after, lines_value, next_tokens, part, parts, start_tokens, text_of_line}
use Rattle.check_report.specs.Effects.{Prints, PrintsLines}
use Rattle.check_report.proofs.PrinterEffects.{prints_after, prints_before}
use Rattle.check_report.proofs.ReportParts.{array_part}

-- lines after a printer's state
lines_from : {W : Type 0} (sink : SinkOf W) (result : Result (Unit {0}) WriteFault) (start new : Printer W) (lines : List Line) (f : LineForm) (b : Bool) → f ≡ start.form → b ≡ start.follows
    → PrintsLines sink result start new lines → Prints sink result start new (parts f b lines) (follows_after b lines)
lines_from sink result start new lines f b form follows list = rw (form, follows) list.prints

next_from : {W : Type 0} (sink : SinkOf W) (result : Result (Unit {0}) WriteFault) (listed new : Printer W) (next : List ℕ) (f : LineForm) → f ≡ listed.form
    → Prints sink result listed new (part listed.form false [] (next_tokens next)) false
    → Prints sink result listed new (part f false [] (next_tokens next)) false
next_from sink result listed new next f form then = rw form then

-- the start of an array, its lines, and the start of the next array
module _ {W : Type 0} (sink : SinkOf W) (text : List ℕ) (first : List SeenField) (name next : List ℕ) (lines : List Line) (old start : Printer W) where
  -- the bytes to the start of the array, and to that of the next one
  abbrev pub before_array : List ℕ
  before_array = part old.form false text (start_tokens first name)

  abbrev pub before_next : List ℕ
  before_next = part old.form false (text ++ flat_map (text_of_line old.form) lines) (start_tokens (first ++ record { key = name; value = lines_value lines } ∷ []) next)

  pub array_unstarted : (e : WriteFault) → Prints sink (Err e) old start before_array false → Prints sink (Err e) old start before_next false
  array_unstarted e failed = rw (← array_part old.form text first name next lines)
      (prints_before sink old start e false false _ _ (prints_before sink old start e false false _ (parts old.form false lines) failed))

  array_lines : (result : Result (Unit {0}) WriteFault) (new : Printer W)
      → Prints sink (Ok tt) old start before_array false → PrintsLines sink result start new lines
      → Prints sink result old new (before_array ++ parts old.form false lines) (follows_after false lines)
  array_lines result new begun list = prints_after sink result old start new false (follows_after false lines) _ _ begun (lines_from sink result start new lines old.form false (sym begun.printed.form) (sym begun.printed.follows) list)

  pub array_unfinished : (e : WriteFault) (new : Printer W)
      → Prints sink (Ok tt) old start before_array false → PrintsLines sink (Err e) start new lines → Prints sink (Err e) old new before_next false
  array_unfinished e new begun failed = rw (← array_part old.form text first name next lines) (prints_before sink old new e _ false _ _ (array_lines (Err e) new begun failed))

  pub array_whole : (result : Result (Unit {0}) WriteFault) (listed new : Printer W)
      → Prints sink (Ok tt) old start before_array false → PrintsLines sink (Ok tt) start listed lines
      → Prints sink result listed new (part listed.form false [] (next_tokens next)) false → Prints sink result old new before_next false
  array_whole result listed new begun list then = rw (← array_part old.form text first name next lines)
      (prints_after sink result old listed new _ false _ _ (array_lines (Ok tt) listed begun list) (next_from sink result listed new next old.form (sym (list.prints.printed.form ∙ begun.printed.form)) then))
