-- Consecutive lines of a printer.
use Rattle.std.proofs.Common.{◌≡◌, ◌∙◌, ℕ, ◌<◌, ◌≤◌, ◌+◌, length, take, drop, get_or, add-one, append_assoc, List, [], ◌∷◌, ◌++◌, Bool, true, Ok, Err, map, refl, ap, sym, append-nil, arith}
use Rattle.std.specs.Prelude.{IsErrAnd, OnErr, Option, Result}
use Rattle.std.specs.List.{flat_map}
use Rattle.std.proofs.KnownBytes.{Appends-nil, Appends-trans}
use Rattle.std.proofs.lemmas.List.{map-append, take_more}
use Rattle.std.proofs.lemmas.List.Concat.{flat_map-cons}
use Rattle.std.proofs.lemmas.Grind.{flat_map-append}
use lib.Seq.{split_at}
use Rattle.flash_device.specs.declared.sink.Sink.{Ghosts as SinkOf}
use Rattle.check_report.specs.declared.fault.WriteFault.{WriteFault}
use Rattle.check_report.specs.declared.fault.WriteFault.TheVariants as writes
use Rattle.flash_device.specs.Device.{AppendsPart}
use Rattle.check_report.specs.declared.rows.form.LineForm.{LineForm}
use Rattle.check_report.specs.declared.rows.printer.Printer.{Printer}
use Rattle.check_report.specs.Fields.{Line}
use Rattle.check_report.specs.Reports.{follows_after, parts, widths_after}
use Rattle.check_report.specs.Effects.{AppendsPrefix, HasLines, HasPrinted, Prints, PrintsLines}
use Rattle.check_report.proofs.Prefixes.{prefix_after, prefix_none, prefix_of_more}
use Rattle.check_report.proofs.ReportParts.{follows_after-append, no_parts, no_widths_after, parts_append, widths_after-append}

pub printed_both : {W : Type 0} (sink : SinkOf W) (old mid new : Printer W) (b : Bool) (xs ys : List Line)
    → HasPrinted sink old mid (parts old.form b xs) (follows_after b xs)
    → HasPrinted sink mid new (parts mid.form mid.follows ys) (follows_after mid.follows ys)
    → HasPrinted sink old new (parts old.form b (xs ++ ys)) (follows_after b (xs ++ ys))
printed_both sink old mid new b xs ys x y = record {
  text = rw (parts_append old.form b xs ys) (Appends-trans (sink.contents old.out) (sink.contents mid.out) (sink.contents new.out) _ _ x.text (rw (x.form, x.follows) at y.text));
  form = y.form ∙ x.form;
  follows = y.follows ∙ ap (λ f. follows_after f ys) x.follows ∙ sym (follows_after-append b xs ys);
}

-- measured widths after two lists of lines
widths_both : {W : Type 0} (old mid new : Printer W) (xs ys : List Line) → mid.form ≡ old.form
    → mid.widths.items ≡ widths_after old.form old.widths.items xs → new.widths.items ≡ widths_after mid.form mid.widths.items ys
    → new.widths.items ≡ widths_after old.form old.widths.items (xs ++ ys)
widths_both old mid new xs ys form first then = (rw (form, first) at then) ∙ sym (widths_after-append old.form old.widths.items xs ys)

-- lines after lines
pub has_lines_both : {W : Type 0} (sink : SinkOf W) (old mid new : Printer W) (xs ys : List Line) → HasLines sink old mid xs → HasLines sink mid new ys → HasLines sink old new (xs ++ ys)
has_lines_both sink old mid new xs ys x y = record {
  printed = printed_both sink old mid new old.follows xs ys x.printed y.printed;
  widths = widths_both old mid new xs ys x.printed.form x.widths y.widths;
}

pub has_no_lines : {W : Type 0} (sink : SinkOf W) (p : Printer W) → HasLines sink p p []
has_no_lines sink p = record {
  printed = record { text = rw (no_parts p.form p.follows) (Appends-nil (sink.contents p.out)); form = refl; follows = refl };
  widths = sym (no_widths_after p.form p.widths.items);
}

-- the lines of a successful call
pub lines_of : {W : Type 0} (sink : SinkOf W) (old new : Printer W) (xs : List Line) → PrintsLines sink (Ok tt) old new xs → HasLines sink old new xs
lines_of sink old new xs p = record { printed = p.prints.printed; widths = p.widths }

-- lines, by what has been printed
pub prints_lines : {W : Type 0} (sink : SinkOf W) (old new : Printer W) (xs : List Line) → HasLines sink old new xs → sink.faults old.out ≤ sink.faults new.out → PrintsLines sink (Ok tt) old new xs
prints_lines sink old new xs all cause = record {
  prints = record { printed = all.printed; stopped = tt; cause = omega (arith, cause) };
  widths = all.widths;
}

-- no output
pub prints_none : {W : Type 0} (sink : SinkOf W) (p : Printer W) → PrintsLines sink (Ok tt) p p []
prints_none sink p = prints_lines sink p p [] (has_no_lines sink p) (omega arith)

-- the lines of another row
pub prints_then : {W X : Type 0} (sink : SinkOf W) (first old new : Printer W) (f : X → List Line) (xs : List X) (i : ℕ) (d x : X)
    → i < length xs → x ≡ get_or xs i d → PrintsLines sink (Ok tt) first old (flat_map f (take i xs)) → PrintsLines sink (Ok tt) old new (f x)
    → PrintsLines sink (Ok tt) first new (flat_map f (take (i + 1) xs))
prints_then sink first old new f xs i d x lt is so_far more =
    rw (take_more xs i d lt, ← is, flat_map-append f (take i xs) (x ∷ []), flat_map-cons f x [], append-nil (f x))
    (prints_lines sink first new _ (has_lines_both sink first old new (flat_map f (take i xs)) (f x) (lines_of sink first old _ so_far) (lines_of sink old new _ more))
    (omega (arith, so_far.prints.cause, more.prints.cause)))

-- ---- after a fault

-- all of the first lines, and a prefix of the next ones
pub printed_prefix : {W : Type 0} (sink : SinkOf W) (old mid : Printer W) (after : Option (List ℕ)) (b : Bool) (xs ys : List Line)
    → HasPrinted sink old mid (parts old.form b xs) (follows_after b xs)
    → AppendsPrefix (sink.contents mid.out) after (parts mid.form mid.follows ys)
    → AppendsPrefix (sink.contents old.out) after (parts old.form b (xs ++ ys))
printed_prefix sink old mid after b xs ys x y =
    rw (parts_append old.form b xs ys) (prefix_after (sink.contents old.out) (sink.contents mid.out) after _ _ x.text (rw (x.form, x.follows) at y))

-- a prefix of the first lines
pub prefix_of_lines : (before after : Option (List ℕ)) (form : LineForm) (b : Bool) (xs ys : List Line)
    → AppendsPrefix before after (parts form b xs) → AppendsPrefix before after (parts form b (xs ++ ys))
prefix_of_lines before after form b xs ys p = rw (parts_append form b xs ys) (prefix_of_more before after _ _ p)

-- the results of a list's elements, from one element on
pub flat_map_at : {X Y : Type 0} (f : X → List Y) (xs : List X) (i : ℕ) (d x : X) → i < length xs → x ≡ get_or xs i d
    → flat_map f xs ≡ (flat_map f (take i xs) ++ f x) ++ flat_map f (drop (i + 1) xs)
flat_map_at f xs i d x lt is =
    ap (flat_map f) (split_at xs i d lt) ∙ flat_map-append f (take i xs) _ ∙ rw (← is, add-one) (sym (append_assoc (flat_map f (take i xs)) (f x) _))

pub map_at : {X Y : Type 0} (f : X → Y) (xs : List X) (i : ℕ) (d x : X) → i < length xs → x ≡ get_or xs i d
    → map f xs ≡ (map f (take i xs) ++ f x ∷ []) ++ map f (drop (i + 1) xs)
map_at f xs i d x lt is =
    ap (map f) (split_at xs i d lt) ∙ map-append f (take i xs) _ ∙ rw (← is, add-one) (sym (append_assoc (map f (take i xs)) (f x ∷ []) _))

-- lines after lines, also in part
pub lines_after : {W : Type 0} (sink : SinkOf W) (result : Result (Unit {0}) WriteFault) (old mid new : Printer W) (xs ys : List Line)
    → PrintsLines sink (Ok tt) old mid xs → PrintsLines sink result mid new ys → PrintsLines sink result old new (xs ++ ys)
lines_after sink (Ok u) old mid new xs ys so_far more =
    prints_lines sink old new _ (has_lines_both sink old mid new xs ys (lines_of sink old mid _ so_far) (lines_of sink mid new _ more)) (omega (arith, so_far.prints.cause, more.prints.cause))
lines_after sink (Err e) old mid new xs ys so_far failed = record {
  prints = record {
    printed = tt;
    stopped = printed_prefix sink old mid (sink.contents new.out) old.follows xs ys so_far.prints.printed failed.prints.stopped;
    cause = omega (arith, so_far.prints.cause, failed.prints.cause);
  };
  widths = tt;
}

-- no further line after a fault
pub lines_before : {W : Type 0} (sink : SinkOf W) (old new : Printer W) (e : WriteFault) (xs ys : List Line) → PrintsLines sink (Err e) old new xs → PrintsLines sink (Err e) old new (xs ++ ys)
lines_before sink old new e xs ys failed = record {
  prints = record {
    printed = tt;
    stopped = prefix_of_lines (sink.contents old.out) (sink.contents new.out) old.form old.follows xs ys failed.prints.stopped;
    cause = failed.prints.cause;
  };
  widths = tt;
}

-- the fault of a call is the function's
pub lines_failed : {W : Type 0} (sink : SinkOf W) (result : Result (Unit {0}) WriteFault) (old new : Printer W) (e : WriteFault) (xs : List Line) → IsErrAnd result (λ fault. fault ≡ e)
    → PrintsLines sink (Err e) old new xs → PrintsLines sink result old new xs
lines_failed sink (Ok u) old new e xs told p = absurd told
lines_failed sink (Err fault) old new e xs told p = rw told p

-- no line after a fault
pub prints_stopped : {W X : Type 0} (sink : SinkOf W) (first old new : Printer W) (e : WriteFault) (f : X → List Line) (xs : List X) (i : ℕ) (d x : X)
    → i < length xs → x ≡ get_or xs i d → PrintsLines sink (Ok tt) first old (flat_map f (take i xs)) → PrintsLines sink (Err e) old new (f x)
    → PrintsLines sink (Err e) first new (flat_map f xs)
prints_stopped sink first old new e f xs i d x lt is so_far failed =
    rw (flat_map_at f xs i d x lt is) (lines_before sink first new e _ _ (lines_after sink (Err e) first old new (flat_map f (take i xs)) (f x) so_far failed))

-- bytes that are printed after others
pub prints_after : {W : Type 0} (sink : SinkOf W) (result : Result (Unit {0}) WriteFault) (old mid new : Printer W) (b c : Bool) (xs ys : List ℕ)
    → Prints sink (Ok tt) old mid xs b → Prints sink result mid new ys c → Prints sink result old new (xs ++ ys) c
prints_after sink (Ok u) old mid new b c xs ys so_far more = record {
  printed = record {
    text = Appends-trans (sink.contents old.out) (sink.contents mid.out) (sink.contents new.out) xs ys so_far.printed.text more.printed.text;
    form = more.printed.form ∙ so_far.printed.form;
    follows = more.printed.follows;
  };
  stopped = tt;
  cause = omega (arith, so_far.cause, more.cause);
}
prints_after sink (Err e) old mid new b c xs ys so_far failed = record {
  printed = tt;
  stopped = prefix_after (sink.contents old.out) (sink.contents mid.out) (sink.contents new.out) xs ys so_far.printed.text failed.stopped;
  cause = omega (arith, so_far.cause, failed.cause);
}

pub prints_before : {W : Type 0} (sink : SinkOf W) (old new : Printer W) (e : WriteFault) (b c : Bool) (xs ys : List ℕ)
    → Prints sink (Err e) old new xs b → Prints sink (Err e) old new (xs ++ ys) c
prints_before sink old new e b c xs ys failed = record {
  printed = tt;
  stopped = prefix_of_more (sink.contents old.out) (sink.contents new.out) xs ys failed.stopped;
  cause = failed.cause;
}

-- bytes that are printed from a state with another flag
pub prints_from : {W : Type 0} (sink : SinkOf W) (result : Result (Unit {0}) WriteFault) (old start new : Printer W) (c : Bool) (xs ys : List ℕ) → start.out ≡ old.out → start.form ≡ old.form → xs ≡ ys
    → Prints sink result start new xs c → Prints sink result old new ys c
prints_from sink (Ok u) old start new c xs ys out form same p = record {
  printed = record { text = rw (out, same) at p.printed.text; form = p.printed.form ∙ form; follows = p.printed.follows };
  stopped = tt;
  cause = rw out at p.cause;
}
prints_from sink (Err e) old start new c xs ys out form same p = record {
  printed = tt;
  stopped = rw (out, same) at p.stopped;
  cause = rw out at p.cause;
}

-- the fault of a call is the function's
pub prints_failed : {W : Type 0} (sink : SinkOf W) (result : Result (Unit {0}) WriteFault) (old new : Printer W) (e : WriteFault) (b : Bool) (xs : List ℕ) → IsErrAnd result (λ fault. fault ≡ e)
    → Prints sink (Err e) old new xs b → Prints sink result old new xs b
prints_failed sink (Ok u) old new e b xs told p = absurd told
prints_failed sink (Err fault) old new e b xs told p = rw told p

-- a fault before the first byte
pub prints_nothing : {W : Type 0} (sink : SinkOf W) (result : Result (Unit {0}) WriteFault) (old new : Printer W) (b : Bool) (xs : List ℕ) → IsErrAnd result (λ fault. fault ≡ writes.Memory)
    → new.out ≡ old.out → Prints sink result old new xs b
prints_nothing sink result old new b xs told same = prints_failed sink result old new writes.Memory b xs told (record {
  printed = tt;
  stopped = rw same (prefix_none (sink.contents old.out) xs);
  cause = rw same (omega arith);
})

-- no byte of an ending
pub ends_nothing : {W : Type 0} (sink : SinkOf W) (result : Result (Unit {0}) WriteFault) (old new : Printer W) (end : List ℕ) → 0 < length end → new.out ≡ old.out
    → OnErr result (AppendsPart (sink.contents old.out) (sink.contents new.out) end)
ends_nothing sink (Ok u) old new end some same = tt
ends_nothing sink (Err e) old new end some same = rw same (0, some, Appends-nil (sink.contents old.out))

-- the line of a call, from a state in which it is measured
pub line_printed : {W : Type 0} (sink : SinkOf W) (result : Result (Unit {0}) WriteFault) (old start new : Printer W) (line : Line) (part : List ℕ) → start.out ≡ old.out → start.form ≡ old.form
    → start.widths.items ≡ widths_after old.form old.widths.items (line ∷ []) → part ≡ parts old.form old.follows (line ∷ []) → new.widths ≡ start.widths
    → Prints sink result start new part true → PrintsLines sink result old new (line ∷ [])
line_printed sink (Ok u) old start new line part out form widths is same p = record {
  prints = prints_from sink (Ok u) old start new true part (parts old.form old.follows (line ∷ [])) out form is p;
  widths = ap (λ v. v.items) same ∙ widths;
}
line_printed sink (Err e) old start new line part out form widths is same p = record {
  prints = prints_from sink (Err e) old start new true part (parts old.form old.follows (line ∷ [])) out form is p;
  widths = tt;
}

-- a fault before the first byte of a line
pub lines_nothing : {W : Type 0} (sink : SinkOf W) (result : Result (Unit {0}) WriteFault) (old new : Printer W) (xs : List Line) → IsErrAnd result (λ fault. fault ≡ writes.Memory)
    → new.out ≡ old.out → PrintsLines sink result old new xs
lines_nothing sink (Ok u) old new xs told same = absurd told
lines_nothing sink (Err e) old new xs told same = record { prints = prints_nothing sink (Err e) old new (follows_after old.follows xs) (parts old.form old.follows xs) told same; widths = tt }

-- the line of another element
pub prints_then_map : {W X : Type 0} (sink : SinkOf W) (first old new : Printer W) (f : X → Line) (xs : List X) (i : ℕ) (d x : X)
    → i < length xs → x ≡ get_or xs i d → PrintsLines sink (Ok tt) first old (map f (take i xs)) → PrintsLines sink (Ok tt) old new (f x ∷ [])
    → PrintsLines sink (Ok tt) first new (map f (take (i + 1) xs))
prints_then_map sink first old new f xs i d x lt is so_far more =
    rw (take_more xs i d lt, ← is, map-append f (take i xs) (x ∷ [])) (lines_after sink (Ok tt) first old new (map f (take i xs)) (f x ∷ []) so_far more)

-- no line of a later element
pub prints_stopped_map : {W X : Type 0} (sink : SinkOf W) (first old new : Printer W) (e : WriteFault) (f : X → Line) (xs : List X) (i : ℕ) (d x : X)
    → i < length xs → x ≡ get_or xs i d → PrintsLines sink (Ok tt) first old (map f (take i xs)) → PrintsLines sink (Err e) old new (f x ∷ [])
    → PrintsLines sink (Err e) first new (map f xs)
prints_stopped_map sink first old new e f xs i d x lt is so_far failed =
    rw (map_at f xs i d x lt is) (lines_before sink first new e (map f (take i xs) ++ f x ∷ []) _ (lines_after sink (Err e) first old new (map f (take i xs)) (f x ∷ []) so_far failed))
