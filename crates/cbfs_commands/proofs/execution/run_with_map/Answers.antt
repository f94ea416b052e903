use Rattle.std.proofs.Common.{refl}
use Rattle.cbfs_commands.proofs.CommandOutputs.{silent}
use Rattle.cbfs_commands.proofs.execution.run_with_map.Goals as goal

pub returns-in-Add-clause-outcome : goal.returns-in-Add-clause-outcome
returns-in-Add-clause-outcome g c = λ h serves. rw c.in-Add.is (silent _ _ _ _ (c.add.ensures.effect.left h (λ reads. serves (rw c.in-Add.is reads))) refl (c.add.ensures.effect.no_output refl))

pub returns-in-Write-clause-outcome : goal.returns-in-Write-clause-outcome
returns-in-Write-clause-outcome g c = λ h serves. rw c.in-Write.is (silent _ _ _ _ (c.write.ensures.effect.left h (λ reads. serves (rw c.in-Write.is reads))) refl (c.write.ensures.effect.no_output refl))

pub returns-in-Create-clause-outcome : goal.returns-in-Create-clause-outcome
returns-in-Create-clause-outcome g c = λ h serves. rw (c.in-Create.is, ← c.as_slice.ensures.value) (silent _ _ _ _ (c.create.ensures.left h (λ reads. serves (rw c.in-Create.is reads))) refl (c.create.ensures.no_output refl))

pub returns-in-Remove-clause-outcome : goal.returns-in-Remove-clause-outcome
returns-in-Remove-clause-outcome g c = λ h serves. rw c.in-Remove.is (silent _ _ _ _ ((c.remove.ensures.effect (g.S.Source.facts c.args.source.now)).left h (λ reads. serves (rw c.in-Remove.is reads))) refl ((c.remove.ensures.effect (g.S.Source.facts c.args.source.now)).no_output refl))

pub returns-in-Remove-clause-effect : goal.returns-in-Remove-clause-effect
returns-in-Remove-clause-effect g c = rw c.in-Remove.is (c.remove.ensures.effect (g.S.Source.facts c.args.source.now))

pub returns-in-Remove-clause-output : goal.returns-in-Remove-clause-output
returns-in-Remove-clause-output g c = λ failed. absurd ((c.remove.ensures.effect (g.S.Source.facts c.args.source.now)).no_output refl failed)
