use Rattle.flash_store.proofs.BufferingLemmas.{Sends-Keeps, Sends-WriteAppends, IsErr-WriteAppends}
use Rattle.flash_store.proofs.output.Output.forward.Goals as goal

pub returns-in_err-flush-clause-bytes : goal.returns-in_err-flush-clause-bytes
returns-in_err-flush-clause-bytes g c =
    rw (← c.self.view_is) (IsErr-WriteAppends _ _ c.from_residual.result _ c.from_residual.ensures.0 (Sends-Keeps _ _ _ _ c.flush.ensures.sent))

pub returns-clause-bytes : goal.returns-clause-bytes
returns-clause-bytes g c =
    rw (← c.self.view_is) (Sends-WriteAppends _ _ _ _ _ c.put.result _ (rw (← c.self-2.view_is) at c.flush.ensures.sent)
    (rw (← c.self-2.view_is) at c.in_ok-flush.ensures.whole) c.put.ensures.bytes)
