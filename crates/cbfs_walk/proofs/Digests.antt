-- The digest of a content, and the first hash attribute.
use Rattle.std.proofs.lemmas.Grind.{common_steps}
use Rattle.std.proofs.Common.{◌≡◌, ℕ, ◌+◌, ◌-◌, ◌<◌, ◌≤◌, true, false, cond, IsTrue, List, ◌++◌, take, drop, length, Option, Some, None, Ok, sym, ap, ◌∙◌, arith, ltb, le_refl}
use Rattle.std.specs.Prelude.{slice_range, IfSome, option_and_then}
use Rattle.std.proofs.lemmas.Bool.{lt-ltb, le-ltb}
use Rattle.byteorder.specs.Endian.{big_number}
use Rattle.sha2.proofs.Facts256.{length-sha256}
use Rattle.sha2.proofs.Facts512.{length-sha512}
use Rattle.flash_format.specs.declared.digest.Algorithm.{Algorithm}
use Rattle.flash_format.specs.declared.digest.Digest.{Digest}
use Rattle.flash_format.specs.declared.head.Head.{Head}
use Rattle.flash_format.specs.Head.{be32}
use Rattle.flash_format.specs.Components.{cell_attributes, cell_content}
use Rattle.std.proofs.lemmas.List.{take-append-drop}
use Rattle.flash_device.specs.Pages.{Pages}
use Rattle.flash_device.specs.Regions.{Range, LiesIn, bytes_in}
use Rattle.cbfs_walk.specs.Walks.{Passes, StandsIn}
use Rattle.cbfs_walk.specs.Cells.{IsComponentIn, cell_in, attributes_start, content_start, content_end}
use Rattle.cbfs_walk.specs.AttrWalks.{IsAttrIn, attributes_in, searched_to}
use Rattle.cbfs_walk.specs.Hashes.{hashed_by, stored_digest, hash_state, content_at}
use Rattle.cbfs_walk.specs.declared.cell.Cell.{Cell}
use Rattle.flash_format.specs.declared.attribute.AttrHead.{AttrHead}
use Rattle.flash_format.specs.Made.{algorithm, algorithm_row, algorithm_numbered, digest_with, digest_bytes}
use Rattle.cbfs_walk.proofs.Parts.{length-region, range-inner, range-take, range-after, length-range}
use Rattle.cbfs_walk.proofs.ReadSequences.{Passes-then}
use Rattle.cbfs_walk.proofs.Checks.{checks_give}
use Rattle.cbfs_walk.proofs.CutLaws.{standing, cell_head, cell_part}
use Rattle.cbfs_walk.proofs.AttributeScans.{attributes_found, Scanning, told_before, scanning_more}

-- ---- a hasher of adjacent pieces

range-join : (x : List ℕ) (a b n : ℕ) → a ≤ b → slice_range x a b ++ slice_range x b (b + n) ≡ slice_range x a (b + n)
range-join x a b n le =
    let there : a + (b - a) ≡ b = omega arith in
    let whole = slice_range x a (b + n) in
    let before : take (b - a) whole ≡ slice_range x a b = range-take x a (b + n) (b - a) (omega arith) ∙ ap (slice_range x a) there in
    let rest : drop (b - a) whole ≡ slice_range x b (b + n) = range-after x a (b + n) (b - a) (omega arith) ∙ ap (λ k. slice_range x k (b + n)) there in
    rw (← before, ← rest) (take-append-drop (b - a) whole)

-- the hasher holds the bytes between two positions
abbrev pub HoldsPart : {H : Type 0} → (H → List ℕ → Type 0) → Range → List ℕ → ℕ → ℕ → H → Type 0
HoldsPart holds r image from at hasher = holds hasher (slice_range (bytes_in r image) from at)

abbrev pub Taking : {F H : Type 0} → (H → List ℕ → Type 0) → Range → ℕ → ℕ → ℕ → Pages F → Pages F → H → Type 0
Taking holds r from end at old now hasher = Scanning r from end at old now (HoldsPart holds r old.device.content from at hasher)

pub taking_more : {F H : Type 0} (holds : H → List ℕ → Type 0) (r : Range) (from end at n : ℕ) (old now new : Pages F) (before hasher : H) (piece : List ℕ) → Taking holds r from end at old now before
    → at + n ≤ end → Passes r at at 0 now new → (IsTrue now.device.honest → piece ≡ slice_range (bytes_in r now.device.content) at (at + n)) → ((m : List ℕ) → holds before m → holds hasher (m ++ piece))
    → Taking holds r from end (at + n) old new hasher
taking_more holds r from end at n old now new before hasher piece s fits read shown taken = scanning_more s n new _ fits read (λ k held.
    let x = bytes_in r old.device.content in
    let same = told_before s (λ image. piece ≡ slice_range (bytes_in r image) at (at + n)) shown k in
    rw (← range-join x from at n s.low, ← same) (taken (slice_range x from at) held))

-- ---- the digest in a hash attribute

-- the digest after the number of a known algorithm, if complete
abbrev digest_by : List ℕ → Algorithm → Option Digest
digest_by contents a = let end = 4 + (algorithm_row a).len in cond (ltb (length contents) end) None (Some (digest_with a (slice_range contents 4 end)))

-- a hash attribute's data, its number read first
module _ (r : Range) (image : List ℕ) (at n number : ℕ) (lies : LiesIn r image) (inside : at + n ≤ r.size) (room : 4 ≤ n) (e : number ≡ be32 at (bytes_in r image)) where
  abbrev its_data : List ℕ
  its_data = slice_range (bytes_in r image) at (at + n)

  length-data : length its_data ≡ n
  length-data = omega (arith, length-range (bytes_in r image) at (at + n) (omega (arith, length-region r image lies, inside)))

  pub stored_by : (found : Option Algorithm) → found ≡ algorithm_numbered number → option_and_then (digest_by its_data) found ≡ stored_digest its_data
  unfolding stored_digest
  stored_by found is =
      let x = bytes_in r image in
      let first : be32 0 its_data ≡ number =
      ap (big_number 4) (range-inner x at (at + n) 0 4 (omega (arith, room)) ∙ ap (λ k. slice_range x k (at + 4)) {x = at + 0} {y = at} (omega arith)) ∙ sym e in
      rw first (ap (option_and_then (digest_by its_data)) is)

  pub stored_whole : (a : Algorithm) (bytes : List ℕ) → Some a ≡ algorithm_numbered number → 4 + (algorithm_row a).len ≤ n → bytes ≡ slice_range (bytes_in r image) (at + 4) (at + 4 + (algorithm_row a).len)
      → Some (digest_with a bytes) ≡ stored_digest its_data
  stored_whole a bytes is long read =
      let x = bytes_in r image in
      let part : bytes ≡ slice_range its_data 4 (4 + (algorithm_row a).len) =
      read ∙ ap (slice_range x (at + 4)) {x = at + 4 + (algorithm_row a).len} {y = at + (4 + (algorithm_row a).len)} (omega arith) ∙ sym (range-inner x at (at + n) 4 (4 + (algorithm_row a).len) (omega (arith, long))) in
      let long_enough : ltb (length its_data) (4 + (algorithm_row a).len) ≡ false = le-ltb (length its_data) (4 + (algorithm_row a).len) (omega (arith, length-data, long)) in
      ap (λ l. Some (digest_with a l)) part ∙ sym (ap (λ b. cond b None (Some (digest_with a (slice_range its_data 4 (4 + (algorithm_row a).len))))) long_enough) ∙ stored_by (Some a) is

  pub stored_short : (a : Algorithm) → Some a ≡ algorithm_numbered number → n < 4 + (algorithm_row a).len → None ≡ stored_digest its_data
  stored_short a is short =
      let too_short : ltb (length its_data) (4 + (algorithm_row a).len) ≡ true = lt-ltb (length its_data) (4 + (algorithm_row a).len) (omega (arith, length-data, short)) in
      sym (ap (λ b. cond b None (Some (digest_with a (slice_range its_data 4 (4 + (algorithm_row a).len))))) too_short) ∙ stored_by (Some a) is

-- ---- the content's digest

-- all pieces are the content
pub content_taken : (x : List ℕ) (c : Cell) (from at : ℕ) → from ≡ content_start c → at ≡ content_end c → slice_range x from at ≡ content_at x c
content_taken x c from at begins ends = ap (λ k. slice_range x k at) begins ∙ ap (slice_range x (content_start c)) ends

-- the algorithm's row
pub algorithm-hashed : (a : Algorithm) (bytes : List ℕ) → algorithm (hashed_by a bytes) ≡ a
unfolding hashed_by
algorithm-hashed a bytes = grind (arith, common_steps)

pub length-hashed : (a : Algorithm) (bytes : List ℕ) → length (digest_bytes (hashed_by a bytes)) ≡ (algorithm_row (algorithm (hashed_by a bytes))).len
unfolding hashed_by
length-hashed a bytes = grind (arith, common_steps, length-sha256, length-sha512)

-- ---- the first hash attribute

-- in a component of the region
pub state_found : (r : Range) (image : List ℕ) (c : Cell) → LiesIn r image → IsComponentIn r.size c → StandsIn (bytes_in r image) c
    → hash_state (attributes_in (bytes_in r image) c) (content_at (bytes_in r image) c) ≡ hash_state (cell_attributes (cell_in (bytes_in r image) c)) (cell_content (cell_in (bytes_in r image) c))
state_found r image c lies is stands =
    let x = bytes_in r image in
    let k = checks_give (r.size - c.at) c.head c.span is.checks in
    let head = cell_head x c (standing x c stands) k.positive in
    let content : cell_content (cell_in x c) ≡ content_at x c =
    ap (λ (h : Head). slice_range (cell_in x c) h.offset (h.offset + h.len)) head ∙ cell_part x c c.head.offset (c.head.offset + c.head.len) k.fits in
    ap (λ all. hash_state all (content_at x c)) (attributes_found r image c lies is stands) ∙ ap (hash_state (cell_attributes (cell_in x c))) (sym content)

-- reads of attributes and digest end before the content
pub read_to_content : {F : Type 0} {r : Range} {refused : ℕ} {old mid new : Pages F} (c : Cell) (tag : ℕ) (o : Option (ℕ × AttrHead)) (found : ℕ × AttrHead) → o ≡ Some found → IfSome o (λ f. (f.1.tag ≡ tag) × IsAttrIn f.0 (content_start c) f.1)
    → Passes r (attributes_start c) (searched_to c (Ok o)) 0 old mid → Passes r (found.0 + 8) (found.0 + 8 + (found.1.len - 8)) refused mid new → Passes r (attributes_start c) (content_start c) refused old new
read_to_content c tag o found is attribute first second =
    let there = (rw is at attribute).1 in
    Passes-then (rw is at first) second (le_refl _) (omega arith) (omega (arith, there.inside, there.head))
