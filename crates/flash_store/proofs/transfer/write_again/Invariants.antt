use Rattle.std.proofs.Common.{◌≡◌, IsTrue}
use Rattle.flash_store.specs.Files.{SameFile}
use Rattle.flash_store.proofs.transfer.write_again.Given as goal

abbrev pub invariant-loop : goal.invariant-loop
invariant-loop g l =
    let old = g.S.Storage.facts l.initial.storage in
    let new = g.S.Storage.facts l.storage in
    record {
      after : SameFile old new;
      same : IsTrue old.faithful → new ≡ old;
    }
