-- The effects of printers and writers of rows.
use Rattle.std.specs.Prelude.{◌≡◌, ℕ, ◌+◌, ◌≤◌, Bool, List, ◌++◌, Option, take}
use Rattle.std.specs.Prelude.{Result, IfOk, OnErr, OnOk, map}
use Rattle.std.specs.Io.KnownBytes.{Appends}
use Rattle.std.specs.declared.alloc.AllocError.{AllocError}
use Rattle.json.specs.Token.{Token}
use Rattle.json.specs.Written.{Written}
use Rattle.flash_device.specs.Device.{AppendsPart, fault_count}
use Rattle.flash_device.specs.declared.sink.Sink.{Ghosts as SinkOf}
use Rattle.check_report.specs.declared.fault.WriteFault.{WriteFault}
use Rattle.check_report.specs.declared.fault.WriteFault.TheVariants as writes
use Rattle.check_report.specs.declared.rows.writer.RowWriter.{RowWriter}
use Rattle.check_report.specs.declared.rows.conclusion.Subject.{Subject}
use Rattle.check_report.specs.declared.rows.printer.Printer.{Printer}
use Rattle.check_report.specs.Fields.{Line}
use Rattle.check_report.specs.Rows.{SeenRow, conclusion_of, counts_of, kinds_of, has_bad}
use Rattle.check_report.specs.Rows.{seen_kind, selected_lines, shown_lines}
use Rattle.check_report.specs.Reports.{ending, follows_after, parts, widths_after}
use Rattle.check_report.specs.declared.rows.writer.Selection.{Selection}

-- the number of failed sink calls in a fault
abbrev pub by_sink : WriteFault → ℕ
by_sink writes.Output = 1
by_sink writes.Memory = 0

-- a successful call adds tokens
pub record AddsTokens (result : Result (Unit {0}) AllocError) (old new : Written)
    (more : List Token) : Type 0 where
  pub tokens : OnOk result (new.tokens ≡ old.tokens ++ more)
  pub before : new.before ≡ old.before

-- a prefix is appended, perhaps all of the bytes
abbrev pub AppendsPrefix : Option (List ℕ) → Option (List ℕ) → List ℕ → Type 0
AppendsPrefix old new bytes = (n : ℕ) × Appends old new (take n bytes)

module _ {W : Type 0} (sink : SinkOf W) where
  pub record HasPrinted (old new : Printer W) (bytes : List ℕ) (is_next : Bool) : Type 0 where
    pub text : Appends (sink.contents old.out) (sink.contents new.out) bytes
    pub form : new.form ≡ old.form
    pub follows : new.follows ≡ is_next

  -- The lines have been printed, and measured if the form is a ruler.
  pub record HasLines (old new : Printer W) (lines : List Line) : Type 0 where
    pub printed : HasPrinted old new
        (parts old.form old.follows lines) (follows_after old.follows lines)
    pub widths : new.widths.items ≡ widths_after old.form old.widths.items lines

  -- The writer's kinds, counts and printed lines since the start are correct for these rows.
  pub record HasWritten (start : Printer W) (selection : Selection) (rows : List SeenRow)
      (writer : RowWriter W) : Type 0 where
    pub same : writer.selection ≡ selection
    pub kinds : map seen_kind writer.kinds.items ≡ kinds_of rows
    pub counts : writer.counts ≡ counts_of rows
    pub lines : HasLines start writer.printer (shown_lines selection rows)

  -- Since the start, a prefix of the shown rows has been printed, perhaps all of them.
  abbrev pub HasPartOf : Printer W → Selection → List SeenRow → RowWriter W → Type 0
  HasPartOf start selection rows writer =
      AppendsPrefix (sink.contents start.out) (sink.contents writer.printer.out)
      (parts start.form start.follows (shown_lines selection rows))

  -- A successful call prints the ending, and tells whether a row is bad. After a fault, the rows
  -- and the ending are incomplete.
  pub record Ends (subject : Subject) (result : Result Bool WriteFault) (old new : RowWriter W)
      : Type 0 where
    pub ended : IfOk result (λ bad. (start : Printer W) (selection : Selection)
        (rows : List SeenRow) → HasWritten start selection rows old → (bad ≡ has_bad rows)
        × Appends (sink.contents start.out) (sink.contents new.printer.out)
        (parts start.form start.follows (selected_lines selection rows)
        ++ ending start.form (conclusion_of subject rows)))
    pub stopped : OnErr result ((start : Printer W) (selection : Selection) (rows : List SeenRow)
        → HasWritten start selection rows old
        → AppendsPart (sink.contents start.out) (sink.contents new.printer.out)
        (parts start.form start.follows (selected_lines selection rows)
        ++ ending start.form (conclusion_of subject rows)))
    pub cause : sink.faults old.printer.out + fault_count by_sink result
        ≤ sink.faults new.printer.out

  module _ (result : Result (Unit {0}) WriteFault) where
    -- a successful call prints the bytes, any other call a prefix; a reported fault of the sink
    -- occurred
    pub record Prints (old new : Printer W) (bytes : List ℕ) (is_next : Bool) : Type 0 where
      pub printed : OnOk result (HasPrinted old new bytes is_next)
      pub stopped :
          OnErr result (AppendsPrefix (sink.contents old.out) (sink.contents new.out) bytes)
      pub cause : sink.faults old.out + fault_count by_sink result ≤ sink.faults new.out

    -- a successful call puts the bytes into the sink, any other call a prefix
    pub record Puts (old new : W) (bytes : List ℕ) : Type 0 where
      pub put : OnOk result (Appends (sink.contents old) (sink.contents new) bytes)
      pub stopped : OnErr result (AppendsPrefix (sink.contents old) (sink.contents new) bytes)
      pub cause : sink.faults old + fault_count by_sink result ≤ sink.faults new

    -- a successful call also measures the lines, if the form is a ruler
    pub record PrintsLines (old new : Printer W) (lines : List Line) : Type 0 where
      pub prints :
          Prints old new (parts old.form old.follows lines) (follows_after old.follows lines)
      pub widths : OnOk result (new.widths.items ≡ widths_after old.form old.widths.items lines)

    -- A successful call adds the rows to any rows, and any other call prints a prefix of them; a
    -- reported fault of the sink occurred.
    pub record Adds (old new : RowWriter W) (more : List SeenRow) : Type 0 where
      pub added : OnOk result ((start : Printer W) (selection : Selection) (rows : List SeenRow)
          → HasWritten start selection rows old → HasWritten start selection (rows ++ more) new)
      pub stopped : OnErr result ((start : Printer W) (selection : Selection)
          (rows : List SeenRow) → HasWritten start selection rows old
          → HasPartOf start selection (rows ++ more) new)
      pub cause : sink.faults old.printer.out + fault_count by_sink result
          ≤ sink.faults new.printer.out
