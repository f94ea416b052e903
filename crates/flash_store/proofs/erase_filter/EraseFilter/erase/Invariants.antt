use Rattle.std.proofs.Common.{◌-◌, ◌≡◌, ◌≤◌, IsTrue, take, replicate}
use Rattle.flash_store.specs.Files.{SameFile}
use Rattle.flash_store.proofs.erase_filter.EraseFilter.erase.Given as goal

abbrev pub invariant-loop-at : goal.invariant-loop-at
invariant-loop-at g l =
    let old = g.S.Storage.facts l.initial.storage in
    let new = g.S.Storage.facts l.storage in
    record {
      within : l.at ≤ l.to;
      after : SameFile old new;
      erased : IsTrue old.faithful → take l.at new.content ≡ replicate l.at 255;
    }

abbrev pub decreases-loop-at : goal.decreases-loop-at
decreases-loop-at g l = l.to - l.at
