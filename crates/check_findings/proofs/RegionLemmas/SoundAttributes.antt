-- Attributes without a fault.
use Rattle.std.proofs.lemmas.Grind.{common_steps}
use Rattle.std.proofs.Common.{◌≡◌, ℕ, ◌+◌, ◌<◌, ◌==◌, Bool, true, false, cond, List, [], ◌∷◌, ◌++◌, length, Option, Some, None, refl, sym, ap, ◌∙◌, arith, append_assoc, eqb-true}
use Rattle.std.specs.Prelude.{IsSomeAnd, nat_le, nat_lt, not, ◌&&◌}
use Rattle.std.specs.Bool.{then_some}
use Rattle.std.specs.Option.{option_map_or, option_or}
use Rattle.std.proofs.lemmas.Bool.{eq-eqb}
use Rattle.std.proofs.lemmas.List.{append-nil}
use Rattle.flash_format.specs.Head.{be32}
use Rattle.flash_format.specs.Entry.{Attribute, is_unused, COMPRESSION, HASH}
use Rattle.cbfs_anchor.specs.declared.algorithm.Algorithm.{Algorithm}
use Rattle.cbfs_anchor.specs.Algorithms.{digest_len}
use Rattle.check_findings.specs.Attributes.{AreSoundAttributes, IsSoundAttribute, STAGE, algorithm_of, compression_fault, digest_fault, earlier_in, fault_after, fault_of, hash_fault, missing_fault, needs_stage, stage_fault, stage_type}
use Rattle.check_findings.specs.declared.region.attributes.EarlierAttributes.{EarlierAttributes}
use Rattle.check_findings.specs.declared.region.finding.AttributeFault.{AttributeFault}
use Rattle.check_findings.specs.declared.region.finding.AttributeFault.TheVariants as faults

-- ---- no fault of single attributes

pub both_none : (o p : Option AttributeFault) → option_or o p ≡ None → (o ≡ None) × (p ≡ None)
both_none None p is = (refl, is)
both_none (Some fault) p is = absurd cc

-- the attribute `a` after others has no fault
none_at : (kind : ℕ) (before all mid after whole : List Attribute) (a : Attribute) → fault_after kind before all ≡ None → all ≡ mid ++ a ∷ after → whole ≡ before ++ mid
    → fault_of kind (earlier_in whole) a ≡ None
unfolding fault_after
none_at kind before all [] after whole a none is same =
    ap (λ l. fault_of kind (earlier_in l) a) (same ∙ append-nil before) ∙ (both_none _ _ (ap (fault_after kind before) (sym is) ∙ none)).0
none_at kind before all (m ∷ mid) after whole a none is same =
    none_at kind (before ++ m ∷ []) (mid ++ a ∷ after) mid after whole a (both_none _ _ (ap (fault_after kind before) (sym is) ∙ none)).1 refl (same ∙ sym (append_assoc before (m ∷ []) mid))

-- no stage attribute is missing
none_missing : (kind : ℕ) (before all : List Attribute) → fault_after kind before all ≡ None → missing_fault kind (earlier_in (before ++ all)) ≡ None
unfolding fault_after
none_missing kind before [] none = ap (λ l. missing_fault kind (earlier_in l)) (append-nil before) ∙ none
none_missing kind before (a ∷ others) none =
    ap (λ l. missing_fault kind (earlier_in l)) (sym (append_assoc before (a ∷ []) others)) ∙ none_missing kind (before ++ a ∷ []) others (both_none _ _ none).1

-- ---- what a missing fault means

record Quiet (behind c h s : Bool) (of_compression of_hash of_stage : Option AttributeFault) : Type 0 where
  listed : behind ≡ false
  compression : c ≡ true → of_compression ≡ None
  digest : c ≡ false → h ≡ true → of_hash ≡ None
  stage : c ≡ false → h ≡ false → s ≡ true → of_stage ≡ None

quiet : (behind c h s : Bool) (of_compression of_hash of_stage : Option AttributeFault) → cond behind (Some faults.BehindEnd) (cond c of_compression (cond h of_hash (cond s of_stage None))) ≡ None
    → Quiet behind c h s of_compression of_hash of_stage
quiet true c h s x y z none = absurd cc
quiet false true h s x y z none = record { listed = refl; compression = λ e. none; digest = λ e. absurd cc; stage = λ e. absurd cc }
quiet false false true s x y z none = record { listed = refl; compression = λ e. absurd cc; digest = λ e f. none; stage = λ e f. absurd cc }
quiet false false false true x y z none = record { listed = refl; compression = λ e. absurd cc; digest = λ e f. absurd cc; stage = λ e f g. none }
quiet false false false false x y z none = record { listed = refl; compression = λ e. absurd cc; digest = λ e f. absurd cc; stage = λ e f g. absurd cc }

not_behind : (u n : Bool) → (u && not n) ≡ false → n ≡ false → u ≡ false
not_behind true n is used = absurd (grind (arith, common_steps))
not_behind false n is used = refl

compression_is : (len : ℕ) → compression_fault len ≡ None → len ≡ 8
compression_is len none = go (len == 8) refl none
  where
    go : (b : Bool) → (len == 8) ≡ b → cond b None (Some faults.CompressionLength) ≡ None → len ≡ 8
    go true e none = eqb-true len 8 e
    go false e none = absurd cc

digest_is : (has : Bool) (len : ℕ) (algorithm : Option Algorithm) → option_map_or (digest_fault has len) algorithm (Some faults.UnknownAlgorithm) ≡ None
    → IsSomeAnd algorithm (λ a. len ≡ 4 + digest_len a) × (has ≡ false)
digest_is has len None none = absurd cc
digest_is has len (Some a) none = go has (len == 4 + digest_len a) refl none
  where
    go : (h b : Bool) → (len == 4 + digest_len a) ≡ b → cond b (then_some h faults.SecondDigest) (Some faults.DigestLength) ≡ None → (len ≡ 4 + digest_len a) × (h ≡ false)
    go h false e none = absurd cc
    go true true e none = absurd cc
    go false true e none = (eqb-true len (4 + digest_len a) e, refl)

hash_is : (has : Bool) (contents : List ℕ) → hash_fault has contents ≡ None → IsSomeAnd (algorithm_of (be32 0 contents)) (λ a. length contents ≡ 4 + digest_len a) × (has ≡ false)
hash_is has contents none = go (nat_lt (length contents) 4) none
  where
    go : (b : Bool) → cond b (Some faults.DigestLength) (option_map_or (digest_fault has (length contents)) (algorithm_of (be32 0 contents)) (Some faults.UnknownAlgorithm)) ≡ None
        → IsSomeAnd (algorithm_of (be32 0 contents)) (λ a. length contents ≡ 4 + digest_len a) × (has ≡ false)
    go true none = absurd cc
    go false none = digest_is has (length contents) (algorithm_of (be32 0 contents)) none

stage_is : (contents : List ℕ) → stage_fault contents ≡ None → (length contents ≡ 16) × (be32 8 contents < be32 12 contents)
stage_is contents none = go (length contents == 16) (nat_le (be32 12 contents) (be32 8 contents)) refl refl none
  where
    go : (b outside : Bool) → (length contents == 16) ≡ b → nat_le (be32 12 contents) (be32 8 contents) ≡ outside → cond b (then_some outside faults.EntryOutside) (Some faults.NoStage) ≡ None
        → (length contents ≡ 16) × (be32 8 contents < be32 12 contents)
    go false outside e f none = absurd cc
    go true true e f none = absurd cc
    go true false e f none = (eqb-true (length contents) 16 e, below (be32 8 contents) (be32 12 contents) f)
      where
        below : (entry memory : ℕ) → nat_le memory entry ≡ false → entry < memory
        below entry memory f = grind (arith, common_steps)

pub sound_attribute : (kind : ℕ) (before : List Attribute) (a : Attribute) → fault_of kind (earlier_in before) a ≡ None → IsSoundAttribute kind before a
sound_attribute kind before a none =
    let earlier = earlier_in before in
    let known = quiet (earlier.has_unused && not (is_unused a.tag)) (a.tag == COMPRESSION) (a.tag == HASH) (a.tag == STAGE && needs_stage kind earlier)
    (compression_fault (length a.contents)) (hash_fault earlier.has_digest a.contents) (stage_fault a.contents) none in
    record {
      listed = not_behind earlier.has_unused (is_unused a.tag) known.listed;
      compression = λ is. compression_is (length a.contents) (known.compression (eq-eqb a.tag COMPRESSION is));
      digest = λ is. (hash_is earlier.has_digest a.contents (known.digest (rw is refl) (eq-eqb a.tag HASH is))).0;
      single = λ is. (hash_is earlier.has_digest a.contents (known.digest (rw is refl) (eq-eqb a.tag HASH is))).1;
      stage = λ of_stage is first. stage_is a.contents (known.stage (rw is refl) (rw is refl) (rw (is, of_stage, first) refl));
    }

has_stage_is : (kind : ℕ) (earlier : EarlierAttributes) → missing_fault kind earlier ≡ None → kind ≡ stage_type → earlier.has_stage ≡ true
has_stage_is kind earlier none is = go earlier.has_stage (ap (λ k. missing_fault k earlier) (sym is) ∙ none)
  where
    go : (b : Bool) → then_some (not b) faults.NoStage ≡ None → b ≡ true
    go true none = refl
    go false none = absurd cc

pub sound_attributes : (kind : ℕ) (all : List Attribute) → fault_after kind [] all ≡ None → AreSoundAttributes kind all
sound_attributes kind all none = record {
  each = λ before after a is. sound_attribute kind before a (none_at kind [] all before after before a none is refl);
  stage = has_stage_is kind (earlier_in all) (none_missing kind [] all none);
}
