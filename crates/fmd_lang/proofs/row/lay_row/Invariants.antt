use Rattle.std.proofs.Common.{◌≡◌, [], drop}
use Rattle.fmd_lang.specs.Layout.{places_from}
use Rattle.fmd_lang.proofs.row.lay_row.Given as goal

abbrev pub invariant-loop-index : goal.invariant-loop-index
invariant-loop-index l =
    places_from l.parent 0 l.row [] ≡ places_from l.parent l.from (drop l.index l.row) l.places.items
