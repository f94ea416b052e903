-- The table or the fault of a text, from the three steps and the bytes read.
use Rattle.std.proofs.Common.{◌≡◌, ℕ, ◌<◌, ◌≤◌, nat_lt, false, ◌⊎◌, List, length, take, Option, Some, None, Result, Ok, Err, Vec, Global, refl, sym, ap, ◌∙◌, subst, arith, inl, inr, IfErr, IfSome}
use Rattle.std.proofs.lemmas.Bool.{cases_lt, le-ltb, lt-ltb}
use Rattle.std.proofs.lemmas.List.{length-take-le, take_all}
use Rattle.fmd_lang.specs.Faults as fmd
use Rattle.fmd_lang.specs.Faults.{first_fault, text_limit}
use Rattle.fmd_lang.specs.Table.{count_fault, area_limit}
use Rattle.fmd_lang.specs.declared.fault.FmdFault.{FmdFault}
use Rattle.fmd_lang.specs.declared.fault.FmdFault.TheVariants as faults
use Rattle.fmap_compiler.specs.Outcome.{reading_limit, Compiles, HasTable, Refuses}
use Rattle.fmap_compiler.proofs.Prefixes.{IsPrefixOf}

-- a table within the limit has no fault
pub Refuses-encoded : (text : List ℕ) (areas : ℕ) (r : Result (Vec ℕ Global) FmdFault) → areas ≤ area_limit →
    fmd.FailsWith (count_fault areas) r → IfErr r (λ fault. (fault ≡ faults.Memory) ⊎ Refuses text fault)
Refuses-encoded text areas (Ok b) few h = tt
Refuses-encoded text areas (Err fault) few (inl memory) = inl memory
Refuses-encoded text areas (Err fault) few (inr many) =
    let small : nat_lt area_limit areas ≡ false = le-ltb _ _ few in let none = rw small at many in absurd cc

too_long : (text : List ℕ) → text_limit < length text → first_fault text ≡ Some faults.TextTooLong
unfolding first_fault
too_long text h = rw (lt-ltb text_limit (length text) h) refl

-- The bytes read are the whole text, or both are too long.
whole_or_long : (text read : List ℕ) → read ≡ take reading_limit text →
    (read ≡ text) ⊎ ((first_fault read ≡ Some faults.TextTooLong) × (first_fault text ≡ Some faults.TextTooLong))
whole_or_long text read prefix = elim (cases_lt reading_limit (length text)) [
  | inl long ↦ let len = ap length prefix ∙ length-take-le reading_limit text (omega (arith, long)) in
      inr (too_long read (omega (arith, len)), too_long text (omega (arith, long)))
  | inr short ↦ inl (prefix ∙ take_all reading_limit text short)
]

Compiles-prefix : (text read bytes : List ℕ) → read ≡ take reading_limit text → Compiles read bytes → Compiles text bytes
Compiles-prefix text read bytes prefix (clear, rest) = elim (whole_or_long text read prefix) [
  | inl whole ↦ subst (λ t. Compiles t bytes) whole (clear, rest)
  | inr long ↦ let fault = long.0 in absurd (cc (fault, clear))
]

Refuses-prefix : (text read : List ℕ) (fault : FmdFault) → read ≡ take reading_limit text → Refuses read fault →
    Refuses text fault
Refuses-prefix text read fault prefix refuses = elim (whole_or_long text read prefix) [
  | inl whole ↦ subst (λ t. Refuses t fault) whole refuses
  | inr long ↦ elim refuses [
    | inl first ↦ inl (long.1 ∙ sym long.0 ∙ first)
    | inr tree ↦ let here = long.0 in absurd (cc (here, tree.0))
  ]
]

-- A property of the bytes read holds for the reader's known bytes.
pub HasTable-prefix : (P : List ℕ → Type 0) (known : Option (List ℕ)) (read shown made put : List ℕ) → IsPrefixOf known read →
    shown ≡ read → put ≡ made → Compiles shown made → P put → HasTable known P
HasTable-prefix P None read shown made put prefix same whole compiles written = tt
HasTable-prefix P (Some text) read shown made put prefix same whole compiles written =
    (made, Compiles-prefix text shown made (same ∙ prefix) compiles, subst P whole written)

pub Refuses-known : (known : Option (List ℕ)) (read shown : List ℕ) (fault : FmdFault) → IsPrefixOf known read → shown ≡ read →
    Refuses shown fault → IfSome known (λ text. Refuses text fault)
Refuses-known None read shown fault prefix same refuses = tt
Refuses-known (Some text) read shown fault prefix same refuses = Refuses-prefix text shown fault (same ∙ prefix) refuses
