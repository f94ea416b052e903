-- Names of types and compressions determine their numbers.
use Rattle.std.proofs.Common.{◌≡◌, ℕ, Bool, true, false, nat_eq, nat_le, List, [], ◌∷◌, Option, Some, None, refl, sym, ap, eqb, ◌&&◌, arith}
use Rattle.std.specs.List.{list_all}
use Rattle.std.specs.Map.{lookup}
use Rattle.std.proofs.lemmas.Bool.{eqb-true, and_parts}
use lib.Chars.{codes}
use Rattle.flash_format.specs.TypeNames.{name_of_compression, name_of_type, number_for, type_table, type_of_text}

-- a test of all rows holds for a found row
found_passes : (test : ℕ × List ℕ → Bool) (rows : List (ℕ × List ℕ)) (n : ℕ) (name : List ℕ) → list_all test rows ≡ true
    → lookup (nat_eq n) rows ≡ Some name → test (n, name) ≡ true
found_passes test [] n name all is = absurd cc
found_passes test (row ∷ rows) n name all is = grind (arith, found_passes test rows n name)

abbrev is_some_of : ℕ → Option ℕ → Bool
is_some_of n None = false
is_some_of n (Some m) = eqb n m

some_is : (n : ℕ) (o : Option ℕ) → is_some_of n o ≡ true → o ≡ Some n
some_is n None e = absurd cc
some_is n (Some m) e = ap (λ (k : ℕ). Some k) (sym (eqb-true n m e))

pub read_back : (kind : ℕ) (name : List ℕ) → name_of_type kind ≡ Some name → type_of_text name ≡ Some kind
unfolding name_of_type type_of_text
read_back kind name is = some_is kind _ (found_passes (λ row. is_some_of row.0 (type_of_text row.1)) type_table kind name refl is)

abbrev pub compression_table : List (ℕ × List ℕ)
compression_table = (0, codes "none") ∷ (1, codes "LZMA") ∷ (2, codes "LZ4") ∷ []

pub compression_back : (n : ℕ) (name : List ℕ) → name_of_compression n ≡ Some name → number_for compression_table name ≡ Some n
unfolding name_of_compression
compression_back n name is = grind (arith, some_is, found_passes)

-- ---- the names as fields

-- a text between tabs: no byte below the blank
abbrev pub is_field : List ℕ → Bool
is_field text = list_all (nat_le 32) text

-- a field which begins with a letter, unlike numbers
abbrev pub is_word : List ℕ → Bool
is_word [] = false
is_word (b ∷ text) = nat_le 65 b && is_field (b ∷ text)

pub word_is_field : (text : List ℕ) → is_word text ≡ true → is_field text ≡ true
word_is_field [] word = refl
word_is_field (b ∷ text) word = (and_parts (nat_le 65 b) (is_field (b ∷ text)) word).1

pub type_is_word : (kind : ℕ) (name : List ℕ) → name_of_type kind ≡ Some name → is_word name ≡ true
unfolding name_of_type
type_is_word kind name is = found_passes (λ row. is_word row.1) type_table kind name refl is

pub compression_is_word : (n : ℕ) (name : List ℕ) → name_of_compression n ≡ Some name → is_word name ≡ true
unfolding name_of_compression
compression_is_word n name is = found_passes (λ row. is_word row.1) compression_table n name refl is
