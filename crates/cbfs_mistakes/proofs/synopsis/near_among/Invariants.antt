use Rattle.std.proofs.Common.{◌≡◌, drop, map}
use Rattle.cbfs_mistakes.specs.Suggestions.{near_among}
use Rattle.cbfs_mistakes.proofs.synopsis.near_among.Given as goal

abbrev pub invariant-loop-name : goal.invariant-loop-name
invariant-loop-name l =
    near_among (map (λ row. (row.0.now, row.1.now)) l.rows) l.word
    ≡ near_among (map (λ row. (row.0.now, row.1.now)) (drop l.name-index l.rows)) l.word
