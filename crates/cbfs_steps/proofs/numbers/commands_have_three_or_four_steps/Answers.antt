use Rattle.std.proofs.Common.{ℕ, [], ◌∷◌, List, length, ap, true}
use lib.Chars.{codes}
use Rattle.cbfs_steps.specs.declared.steps.Step.{Step}
use Rattle.cbfs_edit.specs.declared.addition.HashChoice.TheVariants.{Plain}
use Rattle.cbfs_edit.specs.declared.place.Spot.TheVariants.{First}
use Rattle.cbfs_steps.proofs.numbers.commands_have_three_or_four_steps.Goals as goal

abbrev count : List Step → ℕ
count steps = length steps

pub returns-clause-print : goal.returns-clause-print
returns-clause-print c = ap count (c.steps_are_in_order.ensures.print_steps (codes "COREBOOT") true)

pub returns-clause-layout : goal.returns-clause-layout
returns-clause-layout c = ap count (c.steps_are_in_order.ensures.layout_steps)

pub returns-clause-extract : goal.returns-clause-extract
returns-clause-extract c = ap count (c.steps_are_in_order.ensures.extract_steps (codes "COREBOOT") (codes "a"))

pub returns-clause-add : goal.returns-clause-add
returns-clause-add c = ap count (c.steps_are_in_order.ensures.add_steps (codes "COREBOOT") (codes "a") 0x50 Plain First)

pub returns-clause-remove : goal.returns-clause-remove
returns-clause-remove c = ap count (c.steps_are_in_order.ensures.remove_steps (codes "COREBOOT") (codes "a"))

pub returns-clause-read : goal.returns-clause-read
returns-clause-read c = ap count (c.steps_are_in_order.ensures.read_steps (codes "COREBOOT"))

pub returns-clause-write : goal.returns-clause-write
returns-clause-write c = ap count (c.steps_are_in_order.ensures.write_steps (codes "COREBOOT"))

pub returns-clause-create : goal.returns-clause-create
returns-clause-create c = ap count (c.steps_are_in_order.ensures.create_steps (codes "COREBOOT" ∷ []))
