use Rattle.flash_store.proofs.BufferingLemmas.{Keeps-Appends}
use Rattle.flash_store.proofs.repeating_sink.write_some.Goals as goal

pub returns-in-Ok-clause-written : goal.returns-in-Ok-clause-written
returns-in-Ok-clause-written g c = Keeps-Appends _ _ _ _ c.loop.invariant c.in-Ok.ensures.bytes
