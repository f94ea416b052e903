use Rattle.std.proofs.Common.{arith}
use Rattle.std.proofs.lemmas.Grind.{common_steps}
use Rattle.std.proofs.Common.{rules}
use Rattle.flash_device.proofs.DeviceLemmas.{honest_still}
use Rattle.cbfs_commands.proofs.CreationEffects.{all-written, creation_done, creation_stopped}
use Rattle.cbfs_commands.proofs.create.creation.create.Goals as goal

pub returns-in_err-fill : goal.returns-in_err-fill
returns-in_err-fill g c = creation_stopped _ (search rules) (search rules) (search rules)

pub returns-in_err-copy_in : goal.returns-in_err-copy_in
returns-in_err-copy_in g c = creation_stopped _ (search rules) (search rules) (search rules)

pub returns-in_err-format_all : goal.returns-in_err-format_all
returns-in_err-format_all g c = creation_stopped _ (search rules) (search rules) (search rules)

pub returns : goal.returns
returns g c = grind (arith, common_steps, all-written, creation_done, honest_still)
