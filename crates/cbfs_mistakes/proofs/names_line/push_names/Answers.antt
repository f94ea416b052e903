use Rattle.std.proofs.Common.{◌≡◌, ◌≢◌, ne_eqb, ◌++◌, ◌==◌, false, refl, ◌∙◌, ◌-◌, ℕ, List, length, take, map, min, sym, ap, arith}
use Rattle.std.specs.Global.{Vec}
use lib.Chars.{codes}
use Rattle.cbfs_mistakes.specs.NameLines.{joined, names_line, others_text}
use Rattle.std.proofs.lemmas.Grind.{common_steps}
use Rattle.std.proofs.lemmas.List.{length-map, take-map, take_min}
use Rattle.cbfs_mistakes.proofs.names_line.push_names.Goals as goal

-- the first names, as a slice has them
first_names : (names : List (Vec ℕ)) (n : ℕ) → n ≡ min (length names) 16
    → map (λ (name : Vec ℕ). name.items) (take n names) ≡ take 16 (map (λ (name : Vec ℕ). name.items) names)
first_names names n e =
    let least : min (length names) 16 ≡ min 16 (length names) = omega arith in
    ap (λ k. map (λ (name : Vec ℕ). name.items) (take k names)) (e ∙ least)
    ∙ ap (map (λ (name : Vec ℕ). name.items)) (take_min 16 names)
    ∙ sym (take-map (λ (name : Vec ℕ). name.items) 16 names)

-- the number of the others
others : (names : List (Vec ℕ)) (n : ℕ) → n ≡ min (length names) 16
    → length names - n ≡ length (map (λ (name : Vec ℕ). name.items) names) - 16
others names n e = omega (arith, e, length-map names (λ (name : Vec ℕ). name.items))

-- the line of some names
some_line : (before : List ℕ) (names : List (Vec ℕ)) (n : ℕ) → length names ≢ 0 → n ≡ min (length names) 16
    → before ++ joined (map (λ (name : Vec ℕ). name.items) (take n names)) ++ others_text (length names - n) ++ codes "\n"
    ≡ names_line before (map (λ (name : Vec ℕ). name.items) names)
some_line before names n some e =
    let full : (length (map (λ (name : Vec ℕ). name.items) names) == 0) ≡ false = ne_eqb _ 0 (rw (length-map names (λ (name : Vec ℕ). name.items)) some) in
    rw (full, first_names names n e, others names n e) refl

pub returns : goal.returns
returns c = grind (arith, common_steps, some_line c.args.before.now c.args.names.now c.min-listed.result)
