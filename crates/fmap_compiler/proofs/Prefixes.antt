-- The bytes read, and the reader's known bytes.
use Rattle.std.proofs.Common.{◌≡◌, ℕ, ◌≤◌, List, [], ◌++◌, length, take, Option, Some, None, IfSome, sym, ap, ◌∙◌}
use Rattle.std.proofs.lemmas.List.{append-nil, take_all, take_at}
use Rattle.std.specs.Io.KnownBytes.{Consumes, IsAtEnd}
use Rattle.fmap_compiler.specs.Outcome.{reading_limit}

-- the known text up to the reading limit
abbrev pub IsPrefixOf : Option (List ℕ) → List ℕ → Type 0
IsPrefixOf text read = IfSome text (λ t. read ≡ take reading_limit t)

-- at the end, the bytes are the whole text
pub IsPrefixOf-end : (old before new : Option (List ℕ)) (read more : List ℕ) → Consumes old before read →
    Consumes before new more → more ≡ [] → IsAtEnd new → length read ≤ reading_limit → IsPrefixOf old read
IsPrefixOf-end None before new read more h k none end within = tt
IsPrefixOf-end (Some text) None new read more h k none end within = absurd h
IsPrefixOf-end (Some text) (Some rest) None read more h k none end within = absurd k
IsPrefixOf-end (Some text) (Some rest) (Some left) read more h k none end within =
    let nothing : rest ≡ [] = k ∙ ap (λ m. m ++ left) none ∙ end in
    let whole : text ≡ read = h ∙ ap (λ r. read ++ r) nothing ∙ append-nil read in
    sym (ap (take reading_limit) whole ∙ take_all reading_limit read within)

-- the run has read up to the limit
pub IsPrefixOf-full : (old new : Option (List ℕ)) (read : List ℕ) → Consumes old new read → length read ≡ reading_limit →
    IsPrefixOf old read
IsPrefixOf-full None new read h full = tt
IsPrefixOf-full (Some text) None read h full = absurd h
IsPrefixOf-full (Some text) (Some rest) read h full = sym (ap (take reading_limit) h ∙ take_at read rest reading_limit full)
