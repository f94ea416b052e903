use Rattle.std.proofs.Common.{◌≡◌, drop, map}
use Rattle.cbfs_mistakes.specs.Suggestions.{option_among}
use Rattle.cbfs_mistakes.proofs.suggestion.option_among.Given as goal

abbrev pub invariant-loop-long : goal.invariant-loop-long
invariant-loop-long l =
    option_among (map (λ row. (row.0.now, row.1)) l.rows) l.letters l.name
    ≡ option_among (map (λ row. (row.0.now, row.1)) (drop l.long-index l.rows)) l.letters l.name
