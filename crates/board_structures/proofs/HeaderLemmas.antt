-- The state of a master header.
use Rattle.std.proofs.Common.{◌≡◌, ◌∙◌, ℕ, ◌+◌, ◌-◌, ◌<◌, ◌≤◌, List, length, Some, None, refl, sym, ap, arith}
use Rattle.std.specs.Prelude.{slice_range}
use Rattle.std.proofs.lemmas.Bool.{le-ltb, lt-ltb}
use Rattle.byteorder.specs.Endian.{little_number}
use Rattle.flash_device.specs.Regions.{Range, LiesIn, bytes_in}
use Rattle.flash_device.proofs.DeviceLemmas.{length-bytes_in}
use Rattle.board_structures.specs.MasterHeaders.{header_fault, master_header_in, pointer_fault, pointer_in}
use Rattle.board_structures.specs.declared.master_header.HeaderFault.{HeaderFault}
use Rattle.board_structures.specs.declared.master_header.HeaderFault.TheVariants as faults
use Rattle.board_structures.specs.declared.master_header.MasterHeader.TheVariants as states
use Rattle.board_structures.proofs.Parts.{part_read}

pub pointer_told : (image bytes : List ℕ) (r : Range) (place : ℕ) → LiesIn r image → 4 ≤ r.size → place ≡ r.start + (r.size - 4) → bytes ≡ slice_range image place (place + 4) → little_number 4 bytes ≡ pointer_in (bytes_in r image)
pointer_told image bytes r place inside long is read =
    let x = bytes_in r image in
    let len : r.size ≡ length x = sym (length-bytes_in r image inside) in
    ap (little_number 4) (part_read image bytes r place (r.size - 4) 4 is (omega (arith, long)) read ∙ ap (λ n. slice_range x (n - 4) (n - 4 + 4)) len)

pub header_told : (image bytes : List ℕ) (r : Range) (at place : ℕ) → LiesIn r image → at + 32 ≤ r.size → place ≡ r.start + at → bytes ≡ slice_range image place (place + 32)
    → header_fault r.start r.size bytes ≡ (let x = bytes_in r image in header_fault r.start (length x) (slice_range x at (at + 32)))
header_told image bytes r at place inside fits is read =
    let x = bytes_in r image in
    ap (header_fault r.start r.size) (part_read image bytes r place at 32 is fits read)
    ∙ ap (λ n. header_fault r.start n (slice_range x at (at + 32))) (sym (length-bytes_in r image inside))

pub cut_off_header : (start at : ℕ) (x : List ℕ) → length x < at + 32 → states.Broken faults.CutOff ≡ master_header_in start at x
unfolding master_header_in
cut_off_header start at x short = rw (lt-ltb (length x) (at + 32) short) refl

pub broken_header : (start at : ℕ) (x : List ℕ) (fault : HeaderFault) → at + 32 ≤ length x → header_fault start (length x) (slice_range x at (at + 32)) ≡ Some fault → states.Broken fault ≡ master_header_in start at x
unfolding master_header_in
broken_header start at x fault long header = rw (le-ltb (length x) (at + 32) long, header) refl

pub stray_pointer : (start at : ℕ) (x : List ℕ) (fault : HeaderFault) → at + 32 ≤ length x → header_fault start (length x) (slice_range x at (at + 32)) ≡ None → pointer_fault at (length x) (pointer_in x) ≡ Some fault → states.Broken fault ≡ master_header_in start at x
unfolding master_header_in
stray_pointer start at x fault long header pointer = rw (le-ltb (length x) (at + 32) long, header, pointer) refl

pub sound_header : (start at : ℕ) (x : List ℕ) → at + 32 ≤ length x → header_fault start (length x) (slice_range x at (at + 32)) ≡ None → pointer_fault at (length x) (pointer_in x) ≡ None → states.Sound ≡ master_header_in start at x
unfolding master_header_in
sound_header start at x long header pointer = rw (le-ltb (length x) (at + 32) long, header, pointer) refl
