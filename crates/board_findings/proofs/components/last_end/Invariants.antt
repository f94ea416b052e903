use Rattle.std.proofs.Common.{◌≡◌, drop}
use Rattle.std.specs.List.{fold}
use Rattle.board_findings.specs.Components.{entry_end, last_end}
use Rattle.board_findings.proofs.components.last_end.Given as goal

abbrev pub invariant-loop-component : goal.invariant-loop-component
invariant-loop-component l =
    fold (λ end c. entry_end c) l.end (drop l.component-index l.components) ≡ last_end l.components
