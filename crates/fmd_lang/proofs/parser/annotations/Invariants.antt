use Rattle.std.proofs.Common.{◌≡◌, ◌<◌, ◌-◌, length, Some, true}
use Rattle.fmd_lang.specs.Faults.{in_annotations, past}
use Rattle.fmd_lang.specs.Grammar.{IsA, One, Then, flags_with}
use Rattle.fmd_lang.specs.declared.word.Kind.TheVariants.{OpenParen}
use Rattle.fmd_lang.specs.ParserResults.{ReadsTokens}
use Rattle.fmd_lang.proofs.parser.annotations.Given as goal

abbrev pub invariant-loop-token : goal.invariant-loop-token
invariant-loop-token l = ReadsTokens (Then (One (IsA OpenParen)) (λ ws. (l.any ≡ true → 0 < length ws) × (flags_with 0 ws ≡ Some l.flags)))
    (past 0, l.depth) (in_annotations l.any, l.depth) l.text l.from l.at

abbrev pub decreases-loop-token : goal.decreases-loop-token
decreases-loop-token l = length l.text - l.at
