use Rattle.std.proofs.Common.{◌≡◌, ◌++◌, flat_map}
use Rattle.quoted_text.specs.Shown.{shown_char}
use Rattle.quoted_text.proofs.shown.push_shown.Given as goal

abbrev pub invariant-loop-c : goal.invariant-loop-c
invariant-loop-c l = l.out.items ≡ l.initial.out.items ++ flat_map shown_char l.yielded
