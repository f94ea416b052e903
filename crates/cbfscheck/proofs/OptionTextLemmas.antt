-- The text of an option file, by the bytes that are read of it.
use Rattle.std.proofs.Common.{◌≡◌, ◌≤◌, ◌+◌, ◌++◌, ◌∙◌, ℕ, List, [], length, take, Option, Some, None, Result, Ok, Err, ap, arith, inr}
use Rattle.std.specs.Prelude.{◌⊎◌, IfSome, String}
use Rattle.std.specs.Option.{option_map}
use Rattle.std.specs.declared.alloc.Global.{Global}
use Rattle.std.proofs.lemmas.List.{length-take, take_all}
use Rattle.cbfscheck.specs.OptionTexts.{IsTextOf, IsUnread, largest}
use Rattle.cbfscheck.specs.declared.refusal.OptionsFault.{OptionsFault}
use Rattle.cbfscheck.specs.declared.refusal.OptionsFault.TheVariants as faults

-- what is read up to a limit
pub read_first : (remaining : Option (List ℕ)) (limit : ℕ) (before bytes : List ℕ)
    → limit ≡ largest + 1 → before ≡ []
    → IfSome (option_map (take limit) remaining) (λ read. bytes ≡ before ++ read)
    → IfSome remaining (λ content. bytes ≡ take (largest + 1) content)
read_first None limit before bytes at empty read = tt
read_first (Some content) limit before bytes at empty read =
    let is : bytes ≡ before ++ take limit content = read in
    is ∙ ap (λ b. b ++ take limit content) empty ∙ ap (λ n. take n content) at

-- not more than the limit is the whole content
whole : (content bytes : List ℕ) → bytes ≡ take (largest + 1) content → length bytes ≤ largest
    → bytes ≡ content
whole content bytes read short =
    read ∙ take_all (largest + 1) content (omega (arith, length-take (largest + 1) content, ap length read))

-- the text of the bytes is that of the content
pub text_of_content : (content bytes : List ℕ) (result : Result (String Global) OptionsFault)
    → bytes ≡ take (largest + 1) content → IsTextOf bytes result → IsTextOf content result
text_of_content content bytes (Ok text) read is =
    let all = whole content bytes read is.0 in
    rw (← all) is
text_of_content content bytes (Err faults.TooLarge) read is =
    omega (arith, length-take (largest + 1) content, ap length read)
text_of_content content bytes (Err faults.NotUtf8) read is =
    let all = whole content bytes read is.0 in
    rw (← all) is
text_of_content content bytes (Err (faults.Unread fault)) read is = absurd is

-- also if nothing is known of the content
pub text_if_known : (remaining : Option (List ℕ)) (bytes : List ℕ)
    (result : Result (String Global) OptionsFault)
    → IfSome remaining (λ content. bytes ≡ take (largest + 1) content) → IsTextOf bytes result
    → IfSome remaining (λ content. IsUnread result ⊎ IsTextOf content result)
text_if_known None bytes result read is = tt
text_if_known (Some content) bytes result read is = inr (text_of_content content bytes result read is)
