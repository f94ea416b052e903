use Rattle.std.proofs.Common.{◌≡◌, drop, map}
use Rattle.cbfs_mistakes.specs.Synopses.{synopsis_among}
use Rattle.cbfs_mistakes.proofs.synopsis.synopsis_among.Given as goal

abbrev pub invariant-loop-name : goal.invariant-loop-name
invariant-loop-name l =
    synopsis_among (map (λ row. (row.0.now, row.1.now)) l.rows) l.command
    ≡ synopsis_among (map (λ row. (row.0.now, row.1.now)) (drop l.name-index l.rows)) l.command
