-- The writers fill zeros field by field; the result decodes if each number fits its field.
use Rattle.std.proofs.Common.{◌≡◌, ℕ, ◌<◌, ◌^◌, List, [], ◌++◌, ◌+◌, take, drop, replicate, length, Some, true, refl, arith, rules, append_assoc, length-append}
use Rattle.std.proofs.lemmas.List.{take_at, drop_at, drop_all}
use borrow.Rule.Slice.PartMut.{put_mid}
use Rattle.byteorder.specs.Endian.{little_bytes}
use Rattle.byteorder.specs.Numbers.{big_number-reads_back, little_number-reads_back}
use Rattle.flash_format.specs.declared.head.Head.{Head}
use Rattle.flash_format.specs.declared.flashmap.FmapHead.{FmapHead}
use Rattle.flash_format.specs.declared.flashmap.Area.{Area}
use Rattle.flash_format.specs.Head.{head_at, head_of, head_bytes}
use Rattle.flash_format.specs.Flashmap.{fmap_head_of, fmap_head_bytes, has_signature, area_of, area_bytes}

-- written over the remaining zeros
pub put_name_and_number : (bytes front field number name written more : List ℕ) (at : ℕ) → bytes ≡ front ++ replicate 34 0 → field ≡ name → number ≡ written ++ drop 2 (take 2 more)
    → length front ≡ at → length name ≡ 32 → put_mid (at + 32) 2 (put_mid at 32 bytes field) number ≡ front ++ name ++ written
put_name_and_number bytes front field number name written more at begun named numbered front_long name_long = search (arith, rules, length-append, drop_all, take_at, drop_at, append_assoc)

pub head_is_read_back : (x : List ℕ) (h : Head) → x ≡ head_bytes h → h.len < 256 ^ 4 → h.kind < 256 ^ 4 → h.attributes_offset < 256 ^ 4 → h.offset < 256 ^ 4 → head_at x ≡ Some h
unfolding head_at head_of head_bytes
head_is_read_back x h bytes len_fits kind_fits attributes_fit offset_fits = rw (
  bytes,
  big_number-reads_back 4 h.len [] len_fits,
  big_number-reads_back 4 h.kind [] kind_fits,
  big_number-reads_back 4 h.attributes_offset [] attributes_fit,
  big_number-reads_back 4 h.offset [] offset_fits,
) refl

pub area_is_read_back : (x : List ℕ) (a : Area) → x ≡ area_bytes a → a.offset < 256 ^ 4 → a.size < 256 ^ 4 → a.flags < 256 ^ 2 → length a.name ≡ 32 → area_of x ≡ a
unfolding area_of area_bytes
area_is_read_back x a bytes offset_fits size_fits flags_fit name_long = rw (
  bytes,
  little_number-reads_back 4 a.offset [] offset_fits,
  little_number-reads_back 4 a.size [] size_fits,
  take_at a.name (little_bytes 2 a.flags) 32 name_long,
  drop_at a.name (little_bytes 2 a.flags) 32 name_long,
  little_number-reads_back 2 a.flags [] flags_fit,
) refl

pub fmap_head_is_read_back : (x : List ℕ) (h : FmapHead) → x ≡ fmap_head_bytes h → h.base < 256 ^ 8 → h.size < 256 ^ 4 → h.nareas < 256 ^ 2 → length h.name ≡ 32 → fmap_head_of x ≡ h
unfolding fmap_head_of fmap_head_bytes
fmap_head_is_read_back x h bytes base_fits size_fits nareas_fit name_long = rw (
  bytes,
  little_number-reads_back 8 h.base [] base_fits,
  little_number-reads_back 4 h.size [] size_fits,
  take_at h.name (little_bytes 2 h.nareas) 32 name_long,
  drop_at h.name (little_bytes 2 h.nareas) 32 name_long,
  little_number-reads_back 2 h.nareas [] nareas_fit,
) refl

pub signature_is_written : (x : List ℕ) (h : FmapHead) → x ≡ fmap_head_bytes h → has_signature x ≡ true
unfolding fmap_head_bytes has_signature
signature_is_written x h bytes = rw bytes refl
