use Rattle.std.proofs.Common.{◌≡◌, ◌∙◌, ℕ, List, [], ◌∷◌, ◌++◌, Some, ap, arith}
use Rattle.std.specs.Borrow.{Bor}
use Rattle.std.specs.Option.{option_map_or}
use Rattle.std.proofs.lemmas.Grind.{common_steps}
use lib.Chars.{codes}
use Rattle.cbfs_mistakes.specs.Suggestions.{near_command, near_option, suggestion}
use Rattle.cbfs_mistakes.specs.declared.mistake.Mistake.{Mistake}
use Rattle.cbfs_mistakes.specs.declared.mistake.Mistake.TheVariants as mistakes
use Rattle.cbfs_mistakes.specs.declared.mistake.WordFault.{WordFault}
use Rattle.cbfs_mistakes.specs.declared.mistake.WordFault.TheVariants as faults
use Rattle.cbfs_mistakes.proofs.suggestion.push_suggestion.Goals as goal

-- appended in parts, or as a whole
appended : (out before word after : List ℕ) → out ++ before ++ word ++ after ≡ out ++ (before ++ word ++ after)
appended out before word after = grind (arith, common_steps)

-- the line of a command that is near an unknown one
near_line : (out command : List ℕ) (m : Mistake) (fault : WordFault) (word : Bor (List ℕ)) (known : List ℕ)
    → m ≡ mistakes.Word fault word → fault ≡ faults.UnknownCommand → Some known ≡ near_command word.now
    → out ++ codes "cbfstool: did you mean '" ++ known ++ codes "'?\n" ≡ out ++ suggestion command m
near_line out command m fault word known is unknown near =
    let line : codes "cbfstool: did you mean '" ++ known ++ codes "'?\n" ≡ suggestion command m =
    rw (is, unknown) (ap (λ found. option_map_or (λ known. codes "cbfstool: did you mean '" ++ known ++ codes "'?\n") found []) near) in
    appended out (codes "cbfstool: did you mean '") known (codes "'?\n") ∙ ap (λ l. out ++ l) line

-- the line of an option that is meant by an unknown one
option_line : (out command : List ℕ) (m : Mistake) (fault : WordFault) (word : Bor (List ℕ)) (letter : ℕ)
    → m ≡ mistakes.Word fault word → fault ≡ faults.UnknownOption → Some letter ≡ near_option command word.now
    → out ++ codes "cbfstool: did you mean '-" ++ (letter ∷ []) ++ codes "'?\n" ≡ out ++ suggestion command m
option_line out command m fault word letter is unknown near =
    let line : codes "cbfstool: did you mean '-" ++ (letter ∷ []) ++ codes "'?\n" ≡ suggestion command m =
    rw (is, unknown) (ap (λ found. option_map_or (λ letter. codes "cbfstool: did you mean '-" ++ (letter ∷ codes "'?\n")) found []) near) in
    appended out (codes "cbfstool: did you mean '-") (letter ∷ []) (codes "'?\n") ∙ ap (λ l. out ++ l) line

pub returns-in-Some : goal.returns-in-Some
returns-in-Some c =
    let known = rw c.in-Some.is at c.near_command.ensures in
    rw (← near_line c.args.out.now.items c.args.command.now c.args.mistake.now _ _ _ c.in-Word.is c.in-UnknownCommand.is known, ← c.as_bytes.ensures.value) c.push_meant.ensures

pub returns-in-Some-near_option : goal.returns-in-Some-near_option
returns-in-Some-near_option c =
    let known = rw c.in-Some-near_option.is at c.near_option.ensures in
    rw (← option_line c.args.out.now.items c.args.command.now c.args.mistake.now _ _ _ c.in-Word.is c.in-UnknownOption.is known) c.push_meant-in-Some-near_option.ensures
