use Rattle.flash_store.specs.Files.{SameBytes}
use Rattle.flash_store.proofs.transfer.read_again.Given as goal

abbrev pub invariant-loop : goal.invariant-loop
invariant-loop g l = SameBytes (g.S.Storage.facts l.initial.storage) (g.S.Storage.facts l.storage)
