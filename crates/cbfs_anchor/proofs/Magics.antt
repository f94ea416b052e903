-- The search for the magic, piece by piece.
use Rattle.std.proofs.Common.{◌≡◌, ⊎_elim, ℕ, ◌+◌, ◌-◌, ◌*◌, ◌<◌, ◌≤◌, cond, List, length, Option, Some, None, Result, Ok, Err, sym, ap, subst, ◌∙◌, arith}
use Rattle.std.specs.Prelude.{slice_range, slice_index}
use Rattle.std.specs.Option.{option_map_or}
use Rattle.std.proofs.lemmas.Bool.{cases_lt, lt-ltb, le-ltb}
use Rattle.memchr.specs.Find.{Nowhere, OccursAt, FindsNeedle}
use Rattle.memchr.proofs.lemmas.ValueLemmas.{FindsNeedle-value}
use Rattle.flash_device.proofs.BytesLemmas.{length-slice_range}
use Rattle.flash_map.proofs.FmapLemmas.{OccursAt-whole, OccursAt-part}
use Rattle.cbfs_anchor.specs.declared.algorithm.Algorithm.{Algorithm}
use Rattle.cbfs_anchor.specs.declared.anchor.Anchor.{Anchor}
use Rattle.cbfs_anchor.specs.declared.fault.SealFault.{SealFault}
use Rattle.cbfs_anchor.specs.declared.fault.SealFault.TheVariants as faults
use Rattle.cbfs_anchor.specs.Algorithms.{algorithm_numbered, digest_len}
use Rattle.cbfs_anchor.specs.Layout.{magic, anchor_in, anchor_at, anchor_with}

-- no magic begins before a position
abbrev pub NoMagicBelow : List ℕ → ℕ → Type 0
NoMagicBelow x at = Nowhere (OccursAt x magic) 0 at

module _ (x : List ℕ) (at n : ℕ) (within : at + n ≤ length x) (before : NoMagicBelow x at) where
  -- a magic at or after the piece's start, and inside it
  here : (k : ℕ) → at ≤ k → k + 8 ≤ at + n → OccursAt x magic k → OccursAt (slice_range x at (at + n)) magic (k - at)
  here k above fits occurs =
      let k_is : k ≡ at + (k - at) = omega arith in
      OccursAt-part x magic at n (k - at) within (omega arith) (subst (OccursAt x magic) k_is occurs)

  room : length (slice_range x at (at + n)) ≡ n
  room = length-slice_range x at n within

  -- after a piece without a magic, up to one that doesn't end in it
  pub no_magic_more : FindsNeedle (slice_range x at (at + n)) magic 0 None → 7 ≤ n → NoMagicBelow x (at + (n - 7))
  no_magic_more none some = λ k above below occurs.
      ⊎_elim (λ earlier. before k above earlier occurs)
      (λ later. none (k - at) (omega arith) (omega (arith, room, below, later, some)) (here k later (omega (arith, below, some)) occurs))
      (cases_lt k at)

  -- the last piece
  pub no_magic_left : FindsNeedle (slice_range x at (at + n)) magic 0 None → at + n ≡ length x → FindsNeedle x magic 0 None
  no_magic_left none all = λ k above below occurs.
      ⊎_elim (λ earlier. before k above earlier occurs)
      (λ later. let fits : k + 8 ≤ length x = occurs.fits in none (k - at) (omega arith) (omega (arith, room, fits, later, all)) (here k later (omega (arith, fits, all)) occurs))
      (cases_lt k at)

  pub magic_found : (p : ℕ) → FindsNeedle (slice_range x at (at + n)) magic 0 (Some p) → FindsNeedle x magic 0 (Some (at + p))
  magic_found p found =
      let whole = OccursAt-whole x magic at n p within found.1 in
      let fits : at + p + 8 ≤ length x = whole.fits in (
        record {
          low = omega arith;
          high = omega (arith, fits);
          before = λ k above below occurs.
              let inside : p + 8 ≤ length (slice_range x at (at + n)) = found.1.fits in
              ⊎_elim (λ earlier. before k above earlier occurs)
              (λ later. found.0.before (k - at) (omega arith) (omega (arith, below, later)) (here k later (omega (arith, room, inside, below)) occurs))
              (cases_lt k at);
        },
        whole,
      )

-- ---- the anchor at the first magic

module _ (start : ℕ) (x : List ℕ) where
  pub anchor_none : FindsNeedle x magic 0 None → Err faults.NoAnchor ≡ anchor_in start x
  unfolding anchor_in
  anchor_none none = ap (λ o. option_map_or (anchor_at start x) o (Err faults.NoAnchor)) (FindsNeedle-value x magic None none)

  module _ (p : ℕ) (found : FindsNeedle x magic 0 (Some p)) where
    there : anchor_at start x p ≡ anchor_in start x
    unfolding anchor_in
    there = ap (λ o. option_map_or (anchor_at start x) o (Err faults.NoAnchor)) (FindsNeedle-value x magic (Some p) found)

    by_number : Option Algorithm → Result Anchor SealFault
    by_number o = option_map_or (anchor_with start x p) o (Err faults.UnknownAlgorithm)

    -- the number is inside
    numbered : p + 12 ≤ length x → (o : Option Algorithm) → o ≡ algorithm_numbered (slice_index x (p + 11)) → by_number o ≡ anchor_in start x
    unfolding by_number
    numbered long o is =
        ap (λ (k : Option Algorithm). by_number k) is
        ∙ ap (λ b. cond b (Err faults.CutOff) (by_number (algorithm_numbered (slice_index x (p + 11))))) (sym (le-ltb (length x) (p + 12) long))
        ∙ there

    pub anchor_short : length x < p + 12 → Err faults.CutOff ≡ anchor_in start x
    anchor_short short =
        ap (λ b. cond b (Err faults.CutOff) (option_map_or (anchor_with start x p) (algorithm_numbered (slice_index x (p + 11))) (Err faults.UnknownAlgorithm))) (sym (lt-ltb (length x) (p + 12) short)) ∙ there

    pub anchor_unknown : p + 12 ≤ length x → None ≡ algorithm_numbered (slice_index x (p + 11)) → Err faults.UnknownAlgorithm ≡ anchor_in start x
    unfolding by_number
    anchor_unknown long none = numbered long None none

    module _ (a : Algorithm) (long : p + 12 ≤ length x) (is : Some a ≡ algorithm_numbered (slice_index x (p + 11))) where
      pub anchor_cut : length x < p + (12 + 2 * digest_len a) → Err faults.CutOff ≡ anchor_in start x
      unfolding by_number
      anchor_cut short =
          ap (λ b. cond b (Err faults.CutOff) (Ok (let found : Anchor = record { at = start + p; algorithm = a } in found))) (sym (lt-ltb (length x) (p + (12 + 2 * digest_len a)) short)) ∙ numbered long (Some a) is

      pub anchor_found : p + (12 + 2 * digest_len a) ≤ length x → Ok (record { at = start + p; algorithm = a }) ≡ anchor_in start x
      unfolding by_number
      anchor_found whole =
          ap (λ b. cond b (Err faults.CutOff) (Ok (let found : Anchor = record { at = start + p; algorithm = a } in found))) (sym (le-ltb (length x) (p + (12 + 2 * digest_len a)) whole)) ∙ numbered long (Some a) is
