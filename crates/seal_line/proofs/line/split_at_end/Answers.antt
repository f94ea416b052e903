use Rattle.std.proofs.Common.{◌≡◌, ◌∙◌, ◌+◌, ℕ, List, [], Bor, Option, Some, None, take, drop, refl, rules, tests}
use Rattle.std.proofs.lemmas.List.{take_rest}
use Rattle.std.proofs.lemmas.Iterator.{YieldsList-from_slice}
use Rattle.std.proofs.lemmas.Iterator.Search.{position_from_yields_List}
use Rattle.seal_line.specs.SealWords.{Words, after_end, before_end, end_of, is_text}
use Rattle.seal_line.proofs.line.split_at_end.Goals as goal

before_some : (words : Words) (r : Option ℕ) (n : ℕ) → r ≡ end_of words → r ≡ Some n → take n words ≡ before_end words
before_some words r n found is = rw (← found, is) refl

after_some : (words : Words) (r : Option ℕ) (n : ℕ) → r ≡ end_of words → r ≡ Some n → drop (n + 1) words ≡ after_end words
after_some words r n found is = rw (← found, is) refl

before_none : (words : Words) (r : Option ℕ) → r ≡ end_of words → r ≡ None → words ≡ before_end words
before_none words r found is = rw (← found, is) refl

after_none : (words : Words) (r : Option ℕ) → r ≡ end_of words → r ≡ None → [] ≡ after_end words
after_none words r found is = rw (← found, is) refl

pub returns-in-Some-clause-before : goal.returns-in-Some-clause-before
returns-in-Some-clause-before c = before_some c.args.words.now _ _ (position_from_yields_List (λ (word : Bor (List ℕ)). is_text "--" word.now) _ _ c.position.result c.position.ensures.ran
    (YieldsList-from_slice c.args.words.now cc) (λ x b q k. search (rules, tests))) c.in-Some.is

pub returns-in-Some-clause-after : goal.returns-in-Some-clause-after
returns-in-Some-clause-after c = take_rest c.args.words.now (c.in-Some.n + 1) ∙ after_some c.args.words.now _ _ (position_from_yields_List (λ (word : Bor (List ℕ)). is_text "--" word.now) _ _ c.position.result c.position.ensures.ran
    (YieldsList-from_slice c.args.words.now cc) (λ x b q k. search (rules, tests))) c.in-Some.is

pub returns-in-None-clause-before : goal.returns-in-None-clause-before
returns-in-None-clause-before c = before_none c.args.words.now _ (position_from_yields_List (λ (word : Bor (List ℕ)). is_text "--" word.now) _ _ c.position.result c.position.ensures.ran
    (YieldsList-from_slice c.args.words.now cc) (λ x b q k. search (rules, tests))) c.in-None.is

pub returns-in-None-clause-after : goal.returns-in-None-clause-after
returns-in-None-clause-after c = after_none c.args.words.now _ (position_from_yields_List (λ (word : Bor (List ℕ)). is_text "--" word.now) _ _ c.position.result c.position.ensures.ran
    (YieldsList-from_slice c.args.words.now cc) (λ x b q k. search (rules, tests))) c.in-None.is
