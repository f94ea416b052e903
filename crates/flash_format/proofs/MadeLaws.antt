-- Made cells decode to their components.
use Rattle.std.proofs.Common.{◌≡◌, ℕ, zero, suc, ◌+◌, ◌-◌, ◌%◌, ◌^◌, ◌<◌, ◌≤◌, Bool, true, false, List, [], ◌∷◌, ◌++◌, length, take, drop, replicate, Option, Some, None, Result, refl, sym, ap, ◌∙◌, arith, not, append_assoc, length-append, length-drop}
use Rattle.std.specs.Prelude.{slice_range, IfSome}
use Rattle.std.specs.List.{list_any, before_first, prefix_len}
use Rattle.std.proofs.lemmas.Bool.{le-ltb, ne_eqb, or_from, or_parts, or_right}
use Rattle.std.proofs.lemmas.Bool.Decides.{nat_tests}
use Rattle.std.proofs.lemmas.List.Folds.{list_any-append}
use Rattle.std.proofs.lemmas.List.{take_at, drop_at, length-replicate}
use Rattle.std.proofs.Math.Seq.{take-append-add}
use Rattle.byteorder.specs.Numbers.{big_number-reads_back}
use Rattle.flash_format.specs.declared.head.Head.{Head}
use Rattle.flash_format.specs.declared.head.Extent.{Extent}
use Rattle.flash_format.specs.declared.head.DamageKind.{DamageKind}
use Rattle.flash_format.specs.declared.digest.Digest.{Digest}
use Rattle.flash_format.specs.declared.digest.Algorithm.{Algorithm}
use Rattle.flash_format.specs.declared.digest.Algorithm.TheVariants.{Sha256, Sha512}
use Rattle.flash_format.specs.Head.{head_of, head_at, head_bytes, round64}
use Rattle.flash_format.specs.Made.{name_padding, padding, IsDigest, IsMade, name_room, name_with_nuls, meta_length, algorithm_row, digest_bytes, hash_attribute, hash_contents, hash_bytes, hash_len, made_head, made_metadata, made}
use Rattle.flash_format.specs.Entry.{Attribute, attr_head_of, attributes, scan_after, ends_list, HASH, cell, present, component, is_nul, name_end, name_field, is_terminated, attribute_field}
use Rattle.flash_format.specs.Components.{component_at}
pub use Rattle.flash_format.specs.Placings.{made_attributes}
use Rattle.flash_format.specs.Placings.{DecodesAs, made_component}
use Rattle.flash_format.proofs.AttributeSteps.{attributes_end, attributes_more}
use Rattle.flash_format.proofs.EmptyEntryLaws.{length-head_bytes, head_in_front, checked_passes}
use Rattle.flash_format.proofs.CutSteps.{head_is}
use Rattle.flash_format.proofs.EntryLaws.{from_head, present_by, up}

-- four bytes, if any
abbrev pub KeepsFour : Option (List ℕ) → Type 0
KeepsFour last = IfSome last (λ bytes. length bytes ≡ 4)

pub room_is_least : (k : ℕ) → (k < name_room k) × (name_room k % name_padding ≡ 0) × (name_room k ≤ k + name_padding)
room_is_least k = (omega arith, omega arith, omega arith)

-- ---- the name

zeros_begin : (n : ℕ) → 0 < n → replicate {A = ℕ} n 0 ≡ 0 ∷ replicate (n - 1) 0
zeros_begin zero some = absurd (omega arith)
zeros_begin (suc n) some = let e : suc n - 1 ≡ n = omega arith in ap (λ (k : ℕ). 0 ∷ replicate k 0) (sym e)

until_nul : (b : Bool) (x : ℕ) (xs : List ℕ) → is_nul x ≡ b → b ≡ false → before_first is_nul (x ∷ xs) ≡ x ∷ before_first is_nul xs
until_nul true x xs e f = absurd cc
until_nul false x xs e f =
    let n = prefix_len (λ y. not (is_nul y)) xs in
    let more : 1 + n ≡ suc n = omega arith in
    rw e (ap (λ (k : ℕ). take k (x ∷ xs)) more)

first_nul : (name z : List ℕ) (m : ℕ) → list_any is_nul name ≡ false → length name < m → before_first is_nul (take m (name ++ (0 ∷ z))) ≡ name
first_nul name z zero plain room = absurd (omega arith)
first_nul [] z (suc m) plain room = refl
first_nul (b ∷ name) z (suc m) plain room =
    let parts = or_parts (is_nul b) (list_any is_nul name) plain in
    until_nul (is_nul b) b (take m (name ++ (0 ∷ z))) refl parts.0 ∙ ap (λ (l : List ℕ). b ∷ l) (first_nul name z m parts.1 (omega arith))

front_of : (name z : List ℕ) (m : ℕ) → length name < m → take m (name ++ (0 ∷ z)) ≡ name ++ (0 ∷ take (m - length name - 1) z)
front_of name z m room =
    ap (λ (k : ℕ). take k (name ++ (0 ∷ z))) {x = m} {y = length name + suc (m - length name - 1)} (omega arith) ∙ take-append-add name (0 ∷ z) (suc (m - length name - 1))

some_nul : (name z : List ℕ) (m : ℕ) → length name ≤ 127 → length name < m → is_terminated (take m (name ++ (0 ∷ z))) ≡ true
some_nul name z m short room =
    ap (λ (l : List ℕ). is_terminated l) (front_of name z m room)
    ∙ ap (λ (l : List ℕ). list_any is_nul l) (front_of name (take (m - length name - 1) z) 256 (omega arith))
    ∙ list_any-append is_nul name (0 ∷ take (256 - length name - 1) (take (m - length name - 1) z))
    ∙ or_right (list_any is_nul name) true refl

-- ---- the attributes

gap_ends : (gap : ℕ) → ends_list (replicate gap 255) ≡ true
unfolding attr_head_of
gap_ends (suc (suc (suc (suc gap)))) = grind (arith, nat_tests, or_right)
gap_ends _ = refl

hash_head : (d : Digest) (more : List ℕ) → length (digest_bytes d) ≤ 64 → attr_head_of (hash_attribute d ++ more) ≡ record { tag = HASH; len = 12 + length (digest_bytes d) }
unfolding attr_head_of hash_attribute
hash_head d more few = grind (arith, nat_tests, big_number-reads_back)

length-hash : (d : Digest) → length (hash_attribute d) ≡ 12 + length (digest_bytes d)
unfolding hash_attribute
length-hash d = omega arith

hash_value : (d : Digest) (more : List ℕ) → slice_range (hash_attribute d ++ more) 8 (12 + length (digest_bytes d)) ≡ hash_contents d
unfolding hash_attribute
hash_value d more = take_at (hash_contents d) more (12 + length (digest_bytes d) - 8) (omega arith)

hash_read : (d : Digest) (gap : ℕ) → length (digest_bytes d) ≤ 64 → attributes (hash_attribute d ++ replicate gap 255) ≡ Some (record { tag = HASH; contents = hash_contents d } ∷ [])
hash_read d gap few = grind (arith, nat_tests, hash_head, length-hash, length-append, or_from, le-ltb, hash_value, drop_at, attributes_end, gap_ends, attributes_more)

pub few_bytes : (a : Algorithm) → (algorithm_row a).len ≤ 64
few_bytes Sha256 = omega arith
few_bytes Sha512 = omega arith

-- ---- the parts of metadata

pub length-padded : (name : List ℕ) → length (name_with_nuls name) ≡ name_room (length name)
length-padded name = omega (arith, length-append name (replicate (name_room (length name) - length name) 0), length-replicate {A = ℕ} (name_room (length name) - length name) 0)

pub length-metadata : (name : List ℕ) (kind : ℕ) (digest : Option Digest) (gap n : ℕ) → length (made_metadata name kind digest gap n) ≡ (made_head name kind digest gap n).offset
length-metadata name kind digest gap n = simp (length-append, length-head_bytes, length-replicate) (omega arith)

padded_is : (name : List ℕ) → name_with_nuls name ≡ name ++ (0 ∷ replicate (name_room (length name) - length name - 1) 0)
padded_is name = ap (λ (l : List ℕ). name ++ l) (zeros_begin (name_room (length name) - length name) (omega arith))

range_of : (a b c : List ℕ) (from to : ℕ) → length a ≡ from → from + length b ≡ to → slice_range (a ++ (b ++ c)) from to ≡ b
range_of a b c from to begins ends = grind (arith, drop_at, take_at)

attributes_read : (name : List ℕ) (kind : ℕ) (digest : Option Digest) (gap n : ℕ) (more : List ℕ) → IsDigest digest
    → attributes (attribute_field (made_head name kind digest gap n) (made_metadata name kind digest gap n ++ more)) ≡ Some (made_attributes digest)
unfolding scan_after
attributes_read name kind None gap n more is = refl
attributes_read name kind (Some d) gap n more is = grind (arith, nat_tests, append_assoc, ne_eqb, range_of, length-append, length-head_bytes, length-padded, length-replicate, hash_read, few_bytes)

-- ---- the cell

component_whole : (h : Head) (x : List ℕ) (span : ℕ) (list : List Attribute) → is_terminated (name_field h x) ≡ true → attributes (attribute_field h x) ≡ Some list → component h x span ≡ cell span
component_whole h x span list name read = grind (arith, nat_tests)

-- a component with the made head
component_made : (at : ℕ) (name : List ℕ) (digest : Option Digest) (content x : List ℕ) (h : Head) → head_of x ≡ h → before_first is_nul (name_field h x) ≡ name → attributes (attribute_field h x) ≡ Some (made_attributes digest)
    → slice_range x h.offset (h.offset + h.len) ≡ content → component_at at x ≡ made_component at name h.kind digest content x
component_made at name digest content x h head named formed is = rw (head, named, formed, is) refl

regroup : (head name nuls hash spare content more : List ℕ)
    → head ++ (name ++ nuls) ++ hash ++ spare ++ content ++ more ≡ head ++ (name ++ (nuls ++ (hash ++ (spare ++ (content ++ more)))))
regroup head name nuls hash spare content more = simp append_assoc

pub metadata_is_read : (name : List ℕ) (kind : ℕ) (digest : Option Digest) (gap : ℕ) (content more : List ℕ) → IsMade name kind digest gap content
    → let whole = made_metadata name kind digest gap (length content) ++ content in
    DecodesAs name kind digest content (whole ++ more) (round64 (length whole))
metadata_is_read name kind digest gap content more is =
    let n = length content in
    let h : Head = made_head name kind digest gap n in
    let metadata : List ℕ = made_metadata name kind digest gap n in
    let x : List ℕ = metadata ++ content ++ more in
    let size : length metadata ≡ h.offset = length-metadata name kind digest gap n in
    let small : h.offset + n < 2 ^ 32 = omega (arith, is.small, size) in
    let hash : List ℕ = hash_bytes digest in
    let spare : List ℕ = replicate gap 255 in
    let nuls : List ℕ = replicate (name_room (length name) - length name - 1) 0 in
    let rest : List ℕ = nuls ++ (hash ++ (spare ++ (content ++ more))) in
    let later : List ℕ = name ++ (0 ∷ rest) in
    let long : length x ≡ h.offset + n + length more = omega (arith, length-append (metadata ++ content) more, length-append metadata content, size) in
    let shape : x ≡ head_bytes h ++ later =
    ap (λ (l : List ℕ). head_bytes h ++ l ++ hash ++ spare ++ content ++ more) (padded_is name) ∙ regroup (head_bytes h) name (0 ∷ nuls) hash spare content more in
    let attributes_small : h.attributes_offset ≤ h.offset = grind (arith, nat_tests) in
    let head : head_at x ≡ Some h =
    ap (λ (l : List ℕ). head_at l) shape ∙ head_in_front h later (omega (arith, small)) is.kind_small (omega (arith, small, attributes_small)) (omega (arith, small)) in
    let head_there : head_of x ≡ h = head_is x h head in
    let field : name_field h x ≡ take (name_end h - 24) later =
    ap (λ (l : List ℕ). take (name_end h - 24) (drop 24 l)) shape ∙ ap (λ (l : List ℕ). take (name_end h - 24) l) (drop_at (head_bytes h) later 24 (length-head_bytes h)) in
    let room : length name < name_end h - 24 = grind (arith, nat_tests) in
    let named : is_terminated (name_field h x) ≡ true = ap (λ (l : List ℕ). is_terminated l) field ∙ some_nul name rest (name_end h - 24) is.name_short room in
    let list : attributes (attribute_field h x) ≡ Some (made_attributes digest) =
    ap (λ (l : List ℕ). attributes (attribute_field h l)) (append_assoc metadata content more) ∙ attributes_read name kind digest gap n (content ++ more) is.digest_long in
    let e : Extent = record { content = h.offset; span = round64 (h.offset + h.len) } in
    let span : round64 (h.offset + h.len) ≡ round64 (length (metadata ++ content)) = ap (λ (k : ℕ). round64 k) (omega (arith, length-append metadata content, size)) in
    record {
      is_cell =
          from_head x h (omega (arith, long)) head
          ∙ ap (λ (r : Result Extent DamageKind). present h x r) (checked_passes h (length x) (rw is.kind_used (le-ltb h.offset 25 (omega arith))) (rw is.kind_used (grind (arith, nat_tests))) (omega (arith, long)))
          ∙ present_by false h x e is.kind_used
          ∙ component_whole h x e.span (made_attributes digest) named list
          ∙ ap (λ (k : ℕ). cell k) span;
      is_used = grind (arith, nat_tests);
      component = λ at. grind (arith, component_made, first_nul, range_of, append_assoc);
    }

-- ---- the whole cell

pub length-padding : (n : ℕ) (last : Option (List ℕ)) → KeepsFour last → length (padding n last) ≡ n
length-padding n None is = length-replicate n 255
length-padding n (Some last) is = omega (arith, is, length-append (replicate (n - 4) 255) (drop (4 - n) last), length-replicate {A = ℕ} (n - 4) 255, length-drop (4 - n) last)

pub length-made : (name : List ℕ) (kind : ℕ) (digest : Option Digest) (gap : ℕ) (content : List ℕ) (last : Option (List ℕ)) → KeepsFour last
    → length (made name kind digest gap content last) ≡ round64 (length (made_metadata name kind digest gap (length content) ++ content))
length-made name kind digest gap content last four = grind (arith, nat_tests, length-append, length-padding, up)

pub made_alone : (name : List ℕ) (kind : ℕ) (digest : Option Digest) (gap : ℕ) (content : List ℕ) (last : Option (List ℕ)) → IsMade name kind digest gap content → KeepsFour last
    → DecodesAs name kind digest content (made name kind digest gap content last) (length (made name kind digest gap content last))
made_alone name kind digest gap content last is four =
    let whole : List ℕ = made_metadata name kind digest gap (length content) ++ content in
    rw (length-made name kind digest gap content last four) (metadata_is_read name kind digest gap content (padding (round64 (length whole) - length whole) last) is)

pub hash_as_long : (digest : Option Digest) → IsDigest digest → length (hash_bytes digest) ≡ hash_len digest
hash_as_long None is = refl
hash_as_long (Some d) is = length-hash d ∙ ap (λ (k : ℕ). 12 + k) is

pub made_as_long : (name : List ℕ) (kind : ℕ) (digest : Option Digest) (gap : ℕ) (content : List ℕ) (last : Option (List ℕ)) → IsDigest digest → KeepsFour last
    → length (made name kind digest gap content last) ≡ round64 (meta_length (length name) (hash_len digest) + gap + length content)
made_as_long name kind digest gap content last is four = grind (arith, nat_tests, length-append, length-metadata, hash_as_long, length-made)
