use Rattle.std.proofs.Common.{ℕ, ◌<◌, ◌≤◌, length, take}
use Rattle.cbfs_mistakes.specs.WrongWords.{IsRefusedFor}
use Rattle.cbfs_mistakes.proofs.search.wrong_word.Given as goal

abbrev pub invariant-loop-n : goal.invariant-loop-n
invariant-loop-n l = record {
  within : l.n < length l.words;
  after : (m : ℕ) → l.n < m → m ≤ length l.words → IsRefusedFor l.kind (take m l.words);
}

abbrev pub decreases-loop-n : goal.decreases-loop-n
decreases-loop-n l = l.n
