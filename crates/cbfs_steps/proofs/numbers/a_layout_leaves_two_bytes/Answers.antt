use Rattle.std.proofs.Common.{[], ◌∷◌, inl, inr, true, refl}
use lib.Chars.{codes}
use Rattle.cbfs_requests.specs.Requests.{layout, on_region, remove}
use Rattle.cbfs_steps.proofs.numbers.a_layout_leaves_two_bytes.Goals as goal

pub returns-clause-shared : goal.returns-clause-shared
returns-clause-shared c = c.uses_are_those_of_commands.ensures.shared layout refl (1 ∷ 2 ∷ []) []

pub returns-clause-prints : goal.returns-clause-prints
returns-clause-prints c = elim (c.uses_are_those_of_commands.ensures.prints layout) [
  | inl shows ↦ shows.1
  | inr changes ↦ absurd (let other = changes.0 in cc)
]

pub returns-clause-unread : goal.returns-clause-unread
returns-clause-unread c = c.uses_are_those_of_commands.ensures.unread (on_region (codes "COREBOOT") (remove (codes "a"))) (inl refl) (record { content = []; calls = 0; faults = 0; honest = true })
