use Rattle.std.proofs.Common.{Ok, ◌∷◌, map, take}
use Rattle.std.specs.Fmt.{decimal}
use Rattle.json.specs.Token.{begin_array, number}
use Rattle.check_report.specs.Effects.{AddsTokens}
use Rattle.check_report.proofs.rows.document.put_name.Given as goal

abbrev pub invariant-loop-byte : goal.invariant-loop-byte
invariant-loop-byte l = AddsTokens (Ok tt) l.fn.writer l.writer
    (begin_array ∷ map (λ b. number (decimal b)) (take l.byte-index l.name))
