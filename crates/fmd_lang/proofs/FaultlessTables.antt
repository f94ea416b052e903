-- The numbers and areas of a text without a fault fit into the fields of the table.
use Rattle.std.proofs.lemmas.Bool.Decides.{nat_tests}
use Rattle.std.proofs.Common.{◌≡◌, ℕ, ◌^◌, ◌<◌, All, List, [], ◌∷◌, ◌++◌, length, Option, Some, None, ◌≤◌, ◌∙◌, ap, subst, arith}
use Rattle.std.specs.Prelude.{unwrap_or}
use Rattle.std.proofs.lemmas.List.Elements.{All-nil, All-cons, All-head, All-tail}
use Rattle.fmd_lang.specs.declared.table.Table.{Table}
use Rattle.fmd_lang.specs.Words.{Word, word, kind_of, words}
use Rattle.fmd_lang.specs.Grammar.{Tree, section, HasValue, IsOffset, IsSize, annotation_flag}
use Rattle.fmd_lang.specs.Faults.{Stage, first_fault, fault_from, next_standing, token_fault, wanted_at}
use Rattle.fmd_lang.specs.Table.{layout_fault, IsTable, area_limit}
use Rattle.fmd_lang.proofs.LayoutLemmas.{count-below, few-sections}
use Rattle.fmd_lang.specs.declared.fault.FmdFault.TheVariants as faults
use Rattle.fmd_lang.proofs.OptionLemmas.{cond-none, map_or-none, or-none}

-- ---- numbers

abbrev pub Fits : Word → Type 0
Fits w = (n : ℕ) → HasValue n w → n < 2 ^ 32

number_fits : (depth : ℕ) (w : Word) → token_fault (kind_of w.bytes) depth w ≡ None → Fits w
number_fits depth w fine n (is, value) = grind (arith, nat_tests)

all_fit : (ws : List Word) (s : Stage) (depth end : ℕ) → fault_from (s, depth) (ws ++ word end [] ∷ []) ≡ None → All Fits ws
all_fit [] s depth end fine = All-nil Fits
all_fit (w ∷ ws) s depth end fine =
    let k = kind_of w.bytes in
    let (own, others) = or-none (token_fault k depth w) _ fine in
    let ((t, inner), stands, further) = map_or-none (λ t. fault_from t (ws ++ word end [] ∷ [])) (next_standing s depth k (annotation_flag w.bytes))
    (faults.Expected w.place (wanted_at s depth k)) others in
    All-cons Fits w ws (number_fits depth w own) (all_fit ws t inner end further)

pub numbers_fit : (text : List ℕ) → first_fault text ≡ None → All Fits (words text)
unfolding first_fault
numbers_fit text fine = grind (arith, nat_tests, all_fit, cond-none)

pub size_fits : (size : Option ℕ) (n : ℕ) (number after : List Word) → size ≡ Some n → IsSize size number →
    All Fits (number ++ after) → n < 2 ^ 32
size_fits None n number after is size each = absurd cc
size_fits (Some m) n number after is (w, shape, value) each =
    let same : m ≡ n = cc in
    let here : All Fits (w ∷ after) = subst (λ (l : List Word). All Fits (l ++ after)) shape each in
    omega (arith, All-head Fits w after here m value, same)

pub offset_fits : (offset : Option ℕ) (place after : List Word) → IsOffset offset place → All Fits (place ++ after) →
    unwrap_or offset 0 < 2 ^ 32
offset_fits None place after is each = omega arith
offset_fits (Some n) place after (front, back, shape, (mark, first, is_mark), (w, second, value)) each =
    let here : All Fits (mark ∷ (w ∷ after)) =
    subst (λ (l : List Word). All Fits (l ++ after)) (shape ∙ ap (λ f. f ++ back) first ∙ ap (λ b. mark ∷ b) second) each in
    All-head Fits w after (All-tail Fits mark (w ∷ after) here) n value

-- ---- areas

pub few_areas : (t : Tree) (table : Table) → layout_fault t ≡ None → IsTable t table → length table.areas.items ≤ area_limit
unfolding layout_fault
few_areas (section name flags offset size parts) table fine (based, sized, called, are) =
    let count = count-below (section name flags offset size parts) 0 table.size [] table.areas.items are in
    grind (arith, nat_tests, few-sections, or-none)
