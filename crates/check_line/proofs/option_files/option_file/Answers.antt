use Rattle.std.proofs.Common.{ℕ, List, [], ◌∷◌, ◌≡◌, ◌≢◌, Option, Some, None, Bor, ap, refl, arith}
use Rattle.std.specs.Prelude.{MatchOption}
use Rattle.std.specs.Option.{option_copied}
use Rattle.std.proofs.lemmas.Bool.Decides.{nat_tests}
use Rattle.std.proofs.lemmas.Str.Pattern.{strip_prefix_char}
use Rattle.check_line.specs.OptionFiles.{path_of}
use Rattle.check_line.proofs.option_files.option_file.Goals as goal

-- a word after `@` (64), or a word that begins otherwise
path_after : (word : List ℕ) (rest : Option (Bor (List ℕ)))
    → MatchOption rest ((xs : List ℕ) → word ≢ 64 ∷ xs) (λ x. word ≡ 64 ∷ x.now)
    → option_copied rest ≡ path_of word
path_after word (Some x) is = rw is refl
path_after [] None other = refl
path_after (b ∷ bs) None other =
    let differs : b ≢ 64 = λ is. other bs (ap (λ b. b ∷ bs) is) in
    grind (arith, nat_tests, differs)

pub returns : goal.returns
returns c =
    path_after c.args.word.now _ (strip_prefix_char 64 c.args.word.now _ c.strip_prefix.ensures.cases (omega arith))
