-- The name at a position of COREBOOT.
use Rattle.std.proofs.lemmas.Grind.{common_steps}
use Rattle.std.proofs.Common.{◌≡◌, ◌⊎◌, inl, inr, ℕ, ◌+◌, ◌-◌, ◌≤◌, min, List, [], ◌++◌, Result, Ok, Err, length, take, drop, sym, ap, ◌∙◌, arith, length-drop}
use Rattle.std.specs.Prelude.{IsErrOf, slice_range}
use Rattle.std.specs.List.{before_first, position_or_len}
use Rattle.std.specs.Option.{option_map_or}
use Rattle.std.specs.Result.{result_ok}
use Rattle.std.proofs.lemmas.List.{take-append-le, take_all, take_min}
use lib.Chars.{codes}
use Rattle.flash_format.specs.Entry.{is_nul}
use Rattle.flash_device.specs.Regions.{Range}
use Rattle.flash_map.specs.Regions.{region_of}
use Rattle.flash_map.specs.declared.search.StoreFault.{StoreFault}
use Rattle.flash_map.specs.declared.search.StoreFault.TheVariants as store
use Rattle.cbfs_walk.proofs.Parts.{length-range, range_is}
use Rattle.cbfs_walk.proofs.Texts.{text_len, text_most}
use Rattle.cbfs_anchor.specs.declared.fault.SealFault.TheVariants as faults
use Rattle.cbfs_anchor.specs.Faults.{store_fault}
use Rattle.cbfs_anchor.specs.ComponentNames.{name_at, name_from}

-- by the answer of a search for COREBOOT
abbrev name_by : ℕ → List ℕ → Result Range StoreFault → List ℕ
name_by at image found = option_map_or (λ (coreboot : Range). name_from (coreboot.start + at) image) (result_ok found) []

pub name_found : (image : List ℕ) (at : ℕ) (coreboot : Range)
    → (let a : Result Range StoreFault = Ok coreboot in IsErrOf a store.Device ⊎ (a ≡ region_of image (codes "COREBOOT")))
    → name_from (coreboot.start + at) image ≡ name_at at image
unfolding name_at
name_found image at coreboot (inl e) = absurd cc
name_found image at coreboot (inr is) = ap (name_by at image) is

pub no_name : (image : List ℕ) (at : ℕ) (fault : StoreFault)
    → (let a : Result Range StoreFault = Err fault in IsErrOf a store.Device ⊎ (a ≡ region_of image (codes "COREBOOT")))
    → (store_fault fault ≡ faults.Device) ⊎ (name_at at image ≡ [])
unfolding name_at
no_name image at fault (inl e) = let is : fault ≡ store.Device = cc in inl (ap store_fault is)
no_name image at fault (inr is) = inr (sym (ap (name_by at image) is))

nothing_left : (n : ℕ) (x : List ℕ) → length x ≤ n → [] ≡ before_first is_nul (take 256 (drop n x))
nothing_left n x le = grind (arith, common_steps, length-drop)

pub no_name_there : (image : List ℕ) (at : ℕ) (coreboot : Range)
    → (let a : Result Range StoreFault = Ok coreboot in IsErrOf a store.Device ⊎ (a ≡ region_of image (codes "COREBOOT")))
    → length image ≤ coreboot.start + at + 24 → [] ≡ name_at at image
no_name_there image at coreboot found le = nothing_left (coreboot.start + at + 24) image le ∙ name_found image at coreboot found

up_to_256 : (n : ℕ) (x : List ℕ) → n ≡ min (length x) 256 → take n x ≡ take 256 x
up_to_256 n x is = let same : n ≡ min 256 (length x) = omega (arith, is) in ap (λ k. take k x) same ∙ take_min 256 x

whole : (n : ℕ) (out rest : List ℕ) → length out ≡ n → take n (out ++ rest) ≡ out
whole n out rest is = take-append-le n out rest (omega (arith, is)) ∙ take_all n out (omega (arith, is))

-- the text in the bytes that were read
pub name_read : (image : List ℕ) (start k n p m : ℕ) (out rest : List ℕ) → p ≡ start + 24 → p ≤ length image → n ≡ min (length image - p) 256 → m ≡ n
    → k ≡ length (before_first is_nul (take n (out ++ rest))) → out ≡ slice_range image p (p + m) → take k (out ++ rest) ≡ name_from start image
name_read image start k n p m out rest here there is all_read told found =
    let read : out ≡ slice_range image (start + 24) (start + 24 + n) = rw (here, all_read) at found in
    let size : length out ≡ n = ap length read ∙ length-range image (start + 24) (start + 24 + n) (omega (arith, here, there, is)) ∙ omega arith in
    let count : k ≡ position_or_len is_nul out = told ∙ ap (λ x. length (before_first is_nul x)) (whole n out rest size) ∙ text_len out in
    let short : k ≤ length out = omega (arith, count, text_most out) in
    let all : n ≡ min (length (drop (start + 24) image)) 256 = omega (arith, here, is, length-drop (start + 24) image) in
    take-append-le k out rest short ∙ ap (λ j. take j out) count
    ∙ ap (before_first is_nul) (read ∙ range_is image (start + 24) n ∙ up_to_256 n (drop (start + 24) image) all)
