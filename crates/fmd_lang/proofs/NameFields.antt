-- The name field of a section is a valid name of a map.
use Rattle.std.proofs.lemmas.Bool.Decides.{nat_tests}
use Rattle.std.proofs.Common.{◌≡◌, ◌≢◌, ℕ, suc, ◌-◌, ◌<◌, not, Bool, true, false, cond, All, List, [], ◌∷◌, ◌++◌, length, replicate, refl, sym, ◌∙◌, ap, subst, arith, length-append}
use Rattle.std.proofs.Math.Bool.{or-true}
use Rattle.std.proofs.lemmas.Bool.{cond_both}
use Rattle.std.specs.Cmp.{second_so}
use Rattle.std.specs.Cmp.Derive.{both_true}
use Rattle.std.specs.List.{list_all, list_any, position_or_len, take_while}
use Rattle.std.proofs.lemmas.List.{take_all, take_at, length-replicate}
use Rattle.std.proofs.lemmas.List.Sums.{take_while-cons}
use Rattle.std.proofs.lemmas.List.Elements.{All-nil, All-cons, All-head, All-tail}
use Rattle.flash_format.specs.Entry.{is_nul}
use Rattle.flash_format.specs.Flashmap.{is_map_name, is_printing}
use Rattle.fmd_lang.specs.Words.{words_after, Word, word, kind_of, is_blank, is_plain, words, words_from, without_comments}
use Rattle.fmd_lang.specs.Table.{field_of}
use Rattle.fmd_lang.specs.Grammar.{IsA}
use Rattle.fmd_lang.specs.declared.word.Kind.TheVariants.{End, Name}

-- ---- the bytes of a token

-- A token has a byte, and a name only plain bytes.
abbrev pub IsWhole : Word → Type 0
IsWhole w = (kind_of w.bytes ≢ End) × (kind_of w.bytes ≡ Name → list_all is_plain w.bytes ≡ true)

name_plain : (b : ℕ) → kind_of (b ∷ []) ≡ Name → is_plain b ≡ true
name_plain b h = grind arith

no_end : (b : ℕ) (bs : List ℕ) → kind_of (b ∷ bs) ≢ End
no_end b bs h = grind arith

all_taken : (s : List ℕ) → list_all is_plain (take_while is_plain s) ≡ true
all_taken [] = refl
all_taken (b ∷ s) =
    ap (λ (l : List ℕ). list_all is_plain l) (take_while-cons is_plain b s)
    ∙ cond_both (is_plain b) (b ∷ take_while is_plain s) [] (λ (l : List ℕ). list_all is_plain l ≡ true)
    (λ plain. both_true plain (all_taken s)) (λ other. refl)

pub words_whole : (place : ℕ) (inside : Bool) (s : List ℕ) → All IsWhole (words_from place inside s)
words_whole place inside [] = All-nil IsWhole
words_whole place inside (b ∷ s) = go (is_blank b) (is_plain b) refl inside (words_whole (suc place) (is_plain b) s)
  where
    others : List Word
    others = words_from (suc place) (is_plain b) s

    row : Word
    row = word place (take_while is_plain (b ∷ s))

    go : (blank plain : Bool) → is_plain b ≡ plain → (inside : Bool) → All IsWhole others →
        All IsWhole (cond blank others (cond (not plain) (word place (b ∷ []) ∷ others) (cond inside others (row ∷ others))))
    go true plain e inside rest = rest
    go false false e inside rest =
        All-cons IsWhole (word place (b ∷ [])) others
        (no_end b [], λ h. let wrong : true ≡ false = sym (name_plain b h) ∙ e in cc) rest
    go false true e true rest = rest
    go false true e false rest =
        let first : take_while is_plain (b ∷ s) ≡ b ∷ take_while is_plain s = take_while-cons is_plain b s ∙ rw e refl in
        All-cons IsWhole row others
        (λ h. no_end b (take_while is_plain s) (sym (ap kind_of first) ∙ h), λ h. all_taken (b ∷ s)) rest

pub all-behind : (P : Word → Type 0) (front behind : List Word) → All P (front ++ behind) → All P behind
all-behind P [] behind each = each
all-behind P (w ∷ front) behind each = all-behind P front behind (All-tail P w (front ++ behind) each)

pub first_name : (text : List ℕ) (first : Word) (rest : List Word) → words text ≡ first ∷ rest → IsA Name first →
    list_all is_plain first.bytes ≡ true
unfolding words_after
first_name text first rest is named =
    let whole : All IsWhole (first ∷ rest) =
    subst (λ (ws : List Word). All IsWhole ws) is (words_whole 0 false (without_comments false text)) in
    (All-head IsWhole first rest whole).1 named

-- ---- the field of a name

plain_no_nul : (b : ℕ) → is_plain b ≡ true → is_nul b ≡ false
plain_no_nul b plain = grind arith

some_nul : (name : List ℕ) (k : ℕ) → list_any is_nul (name ++ replicate (suc k) 0) ≡ true
some_nul [] k = refl
some_nul (b ∷ name) k = rw (some_nul name k) (or-true (is_nul b))

before_nul : (name : List ℕ) (k : ℕ) → list_all is_plain name ≡ true →
    position_or_len is_nul (name ++ replicate (suc k) 0) ≡ length name
before_nul [] k plain = refl
before_nul (b ∷ name) k plain = grind (arith, nat_tests, plain_no_nul, before_nul name k (second_so (is_plain b) (list_all is_plain name) plain))

all_printing : (name : List ℕ) → list_all is_plain name ≡ true → list_all is_printing name ≡ true
all_printing [] plain = refl
all_printing (b ∷ name) plain = grind (arith, nat_tests, all_printing name (second_so (is_plain b) (list_all is_plain name) plain))

pub field_named : (name : List ℕ) → length name < 32 → list_all is_plain name ≡ true → is_map_name (field_of name) ≡ true
field_named name short plain =
    let k : ℕ = 31 - length name in
    let left : 32 - length name ≡ suc k = omega arith in
    let shape : field_of name ≡ name ++ replicate (suc k) 0 =
    ap (λ (l : List ℕ). l ++ replicate (32 - length name) 0) (take_all 32 name (omega arith))
    ∙ ap (λ n. name ++ replicate n 0) left in
    grind (arith, nat_tests, before_nul, take_at, some_nul, all_printing)

pub field_long : (name : List ℕ) → length name < 32 → length (field_of name) ≡ 32
field_long name short =
    let whole = ap length (take_all 32 name (omega arith)) in
    grind (arith, length-replicate, length-append)
