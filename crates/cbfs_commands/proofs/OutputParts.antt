-- Output by parts: a written text, then the rest of a call.
use Rattle.std.proofs.lemmas.Grind.{common_steps}
use Rattle.std.proofs.Common.{◌≡◌, ℕ, ◌+◌, ◌<◌, ◌≤◌, ◌⊎◌, IsTrue, inl, inr, List, [], ◌++◌, length, take, Option, Ok, Err, refl, sym, ap, ◌∙◌, subst, arith, length-append, append_assoc}
use Rattle.std.proofs.Math.Seq.{take-append-add}
use Rattle.std.specs.Io.KnownBytes.{Appends}
use Rattle.std.specs.Result.{IsErrAnd}
use Rattle.std.proofs.KnownBytes.{Appends-nil, Appends-trans}
use Rattle.flash_device.specs.declared.sink.Sink.{Ghosts as SinkOf}
use Rattle.flash_device.specs.Device.{AppendsPart}
use Rattle.flash_device.specs.Pages.{Pages, HasRead, OnHonest}
use Rattle.flash_device.specs.Regions.{Range, bytes_in}
use Rattle.flash_device.proofs.DeviceLemmas.{honest_still, LiesOn-calls}
use Rattle.flash_device.proofs.WindowLemmas.{HasRead-none, HasRead-then, HasRead-within}
use Rattle.cbfs_walk.specs.Walks.{StandsIn}
use Rattle.cbfs_walk.specs.declared.cell.Cell.{Cell}
use Rattle.cbfs_requests.specs.declared.refusal.Refusal.{Refusal}
use Rattle.cbfs_requests.specs.declared.refusal.Refusal.TheVariants as refusals
use Rattle.cbfs_requests.specs.Requests.{by_device}
use Rattle.cbfs_commands.specs.Outcomes.{CommandResult, HasOutput, IsCellOf, Printout, refuses, shows, PrintsOut}

-- a text, then the output
abbrev pub text_then : List ℕ → Printout → Printout
text_then text t = record { written = text ++ t.written; answer = t.answer }

-- a text, then a prefix of another
first_of_both : (old mid new : Option (List ℕ)) (text rest : List ℕ) (n : ℕ) → Appends old mid text → Appends mid new (take n rest)
    → Appends old new (take (length text + n) (text ++ rest))
first_of_both old mid new text rest n wrote more = rw (take-append-add text rest n) (Appends-trans old mid new text (take n rest) wrote more)

prints-then : (old mid new : Option (List ℕ)) (answer : CommandResult) (text : List ℕ) (t : Printout) → Appends old mid text → PrintsOut mid new answer t
    → PrintsOut old new answer (text_then text t)
prints-then old mid new answer text t wrote (inl done) = inl (done.0, Appends-trans old mid new text t.written wrote done.1)
prints-then old mid new answer text t wrote (inr (inl stopped)) =
    let n = stopped.1.0 in
    let more = first_of_both old mid new text t.written n wrote stopped.1.2 in
    inr (inl (stopped.0, (length text + n, omega (arith, length-append text t.written, stopped.1.1), more)))
prints-then old mid new answer text t wrote (inr (inr failed)) =
    let n = failed.1.0 in
    let more = first_of_both old mid new text t.written n wrote failed.1.2 in
    inr (inr (failed.0, (length text + n, omega (arith, length-append text t.written, failed.1.1), more)))

prints-stopped : (old new : Option (List ℕ)) (refusal : Refusal) (text : List ℕ) (t : Printout) → PrintsOut old new (Err refusal) (shows text)
    → PrintsOut old new (Err refusal) (text_then text t)
prints-stopped old new refusal text t it = grind (arith, common_steps)

pub handed : (answer : CommandResult) (refusal : Refusal) → IsErrAnd answer (λ r. r ≡ refusal) → (let a : CommandResult = Err refusal in a) ≡ answer
handed answer refusal is = grind (arith, common_steps)

printout-text : (old new : Option (List ℕ)) (text : List ℕ) → PrintsOut old new (Ok tt) (shows text) → Appends old new text
printout-text old new text it = grind (arith, common_steps)

-- ---- the output so far

-- a written text, and the remaining output
pub record Telling (whole rest : Printout) (before after : Option (List ℕ)) : Type 0 where
  pub text : List ℕ
  pub written : Appends before after text
  pub is : whole ≡ text_then text rest

-- the same for a device's bytes, after at most n reads
pub record ToldSoFar {F W : Type 0} (sink : SinkOf W) (n : ℕ) (whole rest : List ℕ → Printout) (old now : Pages F) (before after : W) : Type 0 where
  pub reads : HasRead n 0 old now
  pub faults : sink.faults before ≤ sink.faults after
  pub printout : OnHonest old.device (λ image. Telling (whole image) (rest image) (sink.contents before) (sink.contents after))

module _ {F W : Type 0} {sink : SinkOf W} where
  -- no output yet
  pub so_far-none : (n : ℕ) (whole rest : List ℕ → Printout) (p : Pages F) (out : W) → ((image : List ℕ) → whole image ≡ rest image)
      → ToldSoFar sink n whole rest p p out out
  so_far-none n whole rest p out is = grind (arith, common_steps)

  module _ {n : ℕ} {whole rest : List ℕ → Printout} {old mid : Pages F} {a b : W} (p : ToldSoFar sink n whole rest old mid a b) where
    module _ {k : ℕ} {new : Pages F} {c : W} where
      -- one more text
      pub so_far-more : {text : List ℕ → List ℕ} (m : ℕ) (next : List ℕ → Printout) → HasOutput sink k mid new b c (Ok tt) (λ image. shows (text image))
          → OnHonest mid.device (λ image. rest image ≡ text_then (text image) (next image)) → n + k ≤ m → ToldSoFar sink m whole next old new a c
      so_far-more {text} m next step is few = record {
        reads = HasRead-within (n + k) m 0 old new few (HasRead-then n k 0 old mid new p.reads step.read);
        faults = omega (arith, p.faults, step.faults);
        printout = λ h.
            let so_far = p.printout h in
            let still = honest_still p.reads.device.calls.same_honesty h in
            let image : List ℕ = old.device.content in
            let piece = subst (λ (l : List ℕ). Appends (sink.contents b) (sink.contents c) (text l)) (p.reads.device.unchanged h) (printout-text _ _ _ (step.printout still)) in
            let left = subst (λ (l : List ℕ). rest l ≡ text_then (text l) (next l)) (p.reads.device.unchanged h) (is still) in
            record {
              text = so_far.text ++ text image;
              written = Appends-trans (sink.contents a) (sink.contents b) (sink.contents c) so_far.text (text image) so_far.written piece;
              is = so_far.is ∙ ap (λ (t : Printout). text_then so_far.text t) left
                  ∙ ap (λ (l : List ℕ). (let t : Printout = record { written = l; answer = (next image).answer } in t)) (sym (append_assoc so_far.text (text image) (next image).written));
            };
      }

      -- the rest of the output
      pub so_far-ends : {answer : CommandResult} {t : List ℕ → Printout} (m : ℕ) → HasOutput sink k mid new b c answer t
          → OnHonest mid.device (λ image. rest image ≡ t image) → n + k ≤ m → HasOutput sink m old new a c answer whole
      so_far-ends {answer} {t} m last is few = record {
        read = HasRead-within (n + k) m _ old new few (HasRead-then n k _ old mid new p.reads last.read);
        faults = omega (arith, p.faults, last.faults);
        output = λ failed. omega (arith, p.faults, last.output failed);
        no_source = last.no_source;
        printout = λ h.
            let so_far = p.printout h in
            let still = honest_still p.reads.device.calls.same_honesty h in
            let here = subst (λ (u : Printout). PrintsOut (sink.contents b) (sink.contents c) answer u) (sym (is still)) (last.printout still) in
            subst (λ (u : Printout). PrintsOut (sink.contents a) (sink.contents c) answer u) (sym so_far.is)
            (prints-then _ _ _ answer so_far.text _ so_far.written (subst (λ (l : List ℕ). PrintsOut (sink.contents b) (sink.contents c) answer (rest l)) (p.reads.device.unchanged h) here));
      }

  module _ {k : ℕ} {old mid new : Pages F} {a b : W} {answer : CommandResult} {t : List ℕ → Printout} (printout : HasOutput sink k mid new a b answer t) where
    -- output after reads
    pub printout-after : {n : ℕ} (m : ℕ) → HasRead n 0 old mid → n + k ≤ m → HasOutput sink m old new a b answer t
    printout-after {n} m first few = record { read = HasRead-within (n + k) m _ old new few (HasRead-then n k _ old mid new first printout.read); faults = printout.faults; output = printout.output; no_source = printout.no_source; printout = λ h. subst (λ (l : List ℕ). PrintsOut (sink.contents a) (sink.contents b) answer (t l)) (first.device.unchanged h) (printout.printout (honest_still first.device.calls.same_honesty h)) }

  module _ {k : ℕ} {old new : Pages F} {a b : W} {text : List ℕ → List ℕ} where
    -- a partial text is a prefix of the output
    pub printout-stopped : {refusal : Refusal} {answer : CommandResult} (t : List ℕ → Printout) → HasOutput sink k old new a b (Err refusal) (λ image. shows (text image)) → IsErrAnd answer (λ r. r ≡ refusal)
        → HasOutput sink k old new a b answer (λ image. text_then (text image) (t image))
    printout-stopped {refusal} {answer} t printout is = subst (λ (r : CommandResult). HasOutput sink k old new a b r (λ image. text_then (text image) (t image))) (handed answer refusal is) (record { read = printout.read; faults = printout.faults; output = printout.output; no_source = printout.no_source; printout = λ h. prints-stopped _ _ refusal (text old.device.content) (t old.device.content) (printout.printout h) })

    -- a complete output before the next output
    pub so_far-of : (next : List ℕ → Printout) → HasOutput sink k old new a b (Ok tt) (λ image. shows (text image))
        → ToldSoFar sink k (λ image. text_then (text image) (next image)) next old new a b
    so_far-of next printout = record { reads = printout.read; faults = printout.faults; printout = λ h. record { text = text old.device.content; written = printout-text _ _ _ (printout.printout h); is = refl } }

  -- by more calls
  pub printout-within : {k : ℕ} {old new : Pages F} {a b : W} {answer : CommandResult} {t : List ℕ → Printout} (m : ℕ) → k ≤ m → HasOutput sink k old new a b answer t
      → HasOutput sink m old new a b answer t
  printout-within m few printout = printout-after printout m (HasRead-none _) (omega (arith, few))

  -- a complete text after reads, or a part of it
  module _ {k : ℕ} {old new : Pages F} {a b : W} (read : HasRead k 0 old new) where
    pub printout-put : {text : List ℕ} → sink.faults a ≤ sink.faults b → Appends (sink.contents a) (sink.contents b) text → HasOutput sink k old new a b (Ok tt) (λ image. shows text)
    printout-put faults wrote = record { read = read; faults = faults; output = λ failed. absurd cc; no_source = λ failed. absurd cc; printout = λ h. inl (refl, wrote) }

    pub printout-part : {answer : CommandResult} (text : List ℕ) → sink.faults a < sink.faults b → AppendsPart (sink.contents a) (sink.contents b) text → IsErrAnd answer (λ r. r ≡ refusals.Output) → (rest : List ℕ → Printout)
        → HasOutput sink k old new a b answer (λ image. text_then text (rest image))
    printout-part text failed part is rest = printout-stopped rest (record { read = read; faults = omega arith; output = λ output. failed; no_source = λ source. absurd cc; printout = λ h. inr (inl (refl, part)) }) is

  pub printout-none : (p : Pages F) (out : W) → HasOutput sink 0 p p out out (Ok tt) (λ image. shows [])
  printout-none p out = grind (arith, common_steps)

  -- only an error: the device's, or the output's only content
  pub printout-refusal : {k : ℕ} {old new : Pages F} {out : W} {refusal : Refusal} {answer : CommandResult} (t : List ℕ → Printout) → IsErrAnd answer (λ r. r ≡ refusal) → HasRead k (by_device refusal) old new
      → (refusal ≡ refusals.Output → ⊥) → (refusal ≡ refusals.Source → ⊥) → OnHonest old.device (λ image. (refusal ≡ refusals.Device) ⊎ (t image ≡ refuses refusal)) → HasOutput sink k old new out out answer t
  printout-refusal {k} {old} {new} {out} {refusal} {answer} t is read no_output no_source printout = subst (λ (r : CommandResult). HasOutput sink k old new out out r t) (handed answer refusal is) (record {
    read = read;
    faults = omega arith;
    output = λ failed. absurd (no_output cc);
    no_source = λ failed. no_source cc;
    printout = λ h. elim (printout h) [
      | inl device ↦ rw device (inr (inr (inl refl, (0, omega arith, Appends-nil (sink.contents out)))))
      | inr only ↦ rw only (inl (refl, Appends-nil (sink.contents out)))
    ];
  })

-- reads leave a cell in its region
pub still_cell : {F : Type 0} {region : Range} {cell : Cell} {n refused : ℕ} {old new : Pages F} → HasRead n refused old new
    → IsCellOf region cell old.device → IsCellOf region cell new.device
still_cell {region = region} {cell = cell} read is = record {
  region = LiesOn-calls read.device.calls is.region;
  cell = is.cell;
  stands = λ h.
      let before = subst (λ b. IsTrue b) read.device.calls.same_honesty h in
      subst (λ (l : List ℕ). StandsIn (bytes_in region l) cell) (sym (read.device.unchanged before)) (is.stands before);
}
