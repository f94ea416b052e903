-- Consecutive reads.
use Rattle.std.proofs.lemmas.Grind.{common_steps}
use Rattle.std.proofs.Common.{◌≡◌, ◌⊎◌, inl, inr, ⊎_elim, ℕ, ◌+◌, ◌-◌, ◌*◌, ◌<◌, ◌≤◌, Result, Ok, Err, refl, sym, subst, arith, le_refl}
use Rattle.std.specs.Prelude.{IfOk, OnOk, IsErrAnd, List, length}
use Rattle.flash_device.specs.Device.{refusals}
use Rattle.flash_device.specs.Pages.{Pages, HasAnswered, HasSeen}
use Rattle.flash_device.specs.Regions.{Range, LiesOn}
use Rattle.flash_device.proofs.DeviceLemmas.{refusals-ok}
use Rattle.flash_device.proofs.WindowLemmas.{HasRead-none, HasRead-then, HasRead-at_most, HasRead-within, ahead_covers, covered}
use Rattle.cbfs_walk.specs.Walks.{ArePaid, IsLoad, Passes, ReadsIn, reads_over}

pub IfOk-to : {E : Type 0} (result : Result ℕ E) (v w : ℕ) → v ≡ w → IfOk result (λ x. x ≡ v) → IfOk result (λ x. x ≡ w)
IfOk-to result v w same told = grind (arith, common_steps)

-- ---- reads in order

pub Passes-none : {F : Type 0} (r : Range) (at : ℕ) (p : Pages F) → Passes r at at 0 p p
Passes-none r at p = record {
  order = le_refl at;
  read = HasRead-within 0 (reads_over (at - at)) 0 p p (omega arith) (HasRead-none p);
  paid = λ none q n load. (q, n, load, omega arith);
  spent = inl (omega arith);
}

pub Passes-seen : {F T E : Type 0} {r : Range} {at n : ℕ} {old new : Pages F} {result : Result T E} → LiesOn r old.device → at + n ≤ r.size → n ≤ 256
    → HasSeen (r.start + at) n old new result → Passes r at at (refusals result) old new
Passes-seen {F} {T} {E} {r} {at} {n} {old} {new} {result} lies inside short seen =
    let q = r.start + at in
    covered old.held q n (Passes r at at (refusals result) old new)
    (λ inside. rw (refusals-ok result (seen.free inside).1) (subst (λ p. Passes r at at 0 old p) (sym (seen.free inside).0) (Passes-none r at old)))
    (λ outside.
    let load : IsLoad old q q n = (le_refl q, short, omega (arith, lies, inside), outside) in
    record {
      order = le_refl at;
      read = HasRead-within 1 (reads_over (at - at)) (refusals result) old new (omega arith) seen.read;
      paid = λ none p k later.
          let far : q + 3840 ≤ p = ahead_covers new.held q p k (length old.device.content) later.0 later.1 (omega (arith, later.2, seen.read.device.calls.same_length)) (answered result none (seen.ahead outside)) later.3 in
          (q, n, load, omega (arith, far, seen.read.device.calls.no_more));
      spent = inr (q, n, load, omega (arith, seen.read.device.calls.no_more));
    })
  where
    answered : {P : Type 0} (a : Result T E) → refusals a ≡ 0 → OnOk a P → P
    answered (Ok x) none p = p
    answered (Err e) none p = absurd cc

-- further reads, at or after the end of the previous reads
pub Passes-then : {F : Type 0} {r : Range} {at p q next end last refused : ℕ} {old mid new : Pages F} → Passes r p q 0 old mid → Passes r next end refused mid new
    → at ≤ p → q ≤ next → end ≤ last → Passes r at last refused old new
Passes-then {F} {r} {at} {p} {q} {next} {end} {last} {refused} {old} {mid} {new} first second low order high =
    let Spent = (new.device.calls ≤ old.device.calls) ⊎ ArePaid old new (r.start + at) (r.start + last + 3840) in
    let before = λ (s m : ℕ) (load : IsLoad mid (r.start + next) s m). first.paid refl s m (omega (arith, load.0, order), load.1, load.2, load.3) in
    let spent : Spent = ⊎_elim
    (λ few. ⊎_elim (λ none. inl (omega (arith, few, none))) (λ s. inr (s.0, s.1, (omega (arith, s.2.0, low), s.2.1, s.2.2, s.2.3), omega (arith, few, s.3, order, high, second.order))) first.spent)
    (λ s. let f = before s.0 s.1 s.2 in inr (f.0, f.1, (omega (arith, f.2.0, low), f.2.1, f.2.2, f.2.3), omega (arith, f.3, s.3, high)))
    second.spent in
    record {
      order = omega (arith, low, first.order, order, second.order, high);
      read = HasRead-at_most (reads_over (q - p) + reads_over (end - next)) (reads_over (last - at)) refused old new
          (⊎_elim (λ none. omega (arith, none)) (λ s. omega (arith, s.2.0, s.3, low, first.order, order, second.order, high)) spent)
          (HasRead-then (reads_over (q - p)) (reads_over (end - next)) refused old mid new first.read second.read);
      paid = λ none s m load.
          let g = second.paid none s m (omega (arith, load.0, high), load.1, load.2, load.3) in
          let f = before g.0 g.1 g.2 in
          (f.0, f.1, (omega (arith, f.2.0, low), f.2.1, f.2.2, f.2.3), omega (arith, f.3, g.3));
      spent = spent;
    }

-- a wider range
pub Passes-within : {F : Type 0} {r : Range} {at p q last refused : ℕ} {old new : Pages F} → Passes r p q refused old new → at ≤ p → q ≤ last → Passes r at last refused old new
Passes-within {F} {r} {at} {p} {q} {last} {refused} {old} {new} passes low high = Passes-then (Passes-none r p old) passes low (le_refl p) high

-- the number of calls
pub Passes-answers : {F T E : Type 0} {r : Range} {at end n : ℕ} {old new : Pages F} {result : Result T E} → Passes r at end (refusals result) old new → end < at + 3840 * n
    → HasAnswered n old new result
Passes-answers {F} {T} {E} {r} {at} {end} {n} {old} {new} {result} passes few = record { read = HasRead-within (reads_over (end - at)) n (refusals result) old new (omega (arith, passes.order, few)) passes.read }

-- reads that fail
pub ReadsIn-refused : {F T E : Type 0} {r : Range} {at end : ℕ} {old new : Pages F} {Is : List ℕ → T → Type 0} (P : E → Type 0) (result : Result T E) → IsErrAnd result P → Passes r at end 1 old new → ReadsIn r at end old new result Is
ReadsIn-refused P (Ok value) told passed = absurd told
ReadsIn-refused P (Err fault) told passed = record { passed = passed; value = λ h. tt }
