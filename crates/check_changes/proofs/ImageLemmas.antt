-- Reads of both images, and their bytes before and after.
use Rattle.std.proofs.Common.{◌≡◌, ℕ, ◌+◌, ◌≤◌, List, Ok, Err, arith}
use Rattle.std.specs.Prelude.{Result, IsErrAnd}
use Rattle.check_changes.specs.declared.images.Images.{Images}
use Rattle.check_changes.specs.declared.fault.ChangeFault.{ChangeFault}
use Rattle.check_changes.specs.Images.{by_old, by_new}
use Rattle.flash_device.specs.Pages.{HasRead}
use Rattle.check_changes.specs.Images.{HasReadFor, OnBoth, lengths}

module _ {F G : Type 0} where
  -- the images after at most m and n reads, a and b of them refused
  abbrev pub HasReadBoth : (m n a b : ℕ) (before after : Images F G) → Type 0
  HasReadBoth m n a b before after = HasRead m a before.old_image after.old_image × HasRead n b before.new_image after.new_image

  pub both-none : (m n : ℕ) (images : Images F G) → HasReadBoth m n 0 0 images images
  both-none m n images = grind arith

  -- the bounds may be higher
  pub both-within : {m n a b : ℕ} {old new : Images F G} (k l : ℕ) → m ≤ k → n ≤ l
      → HasReadBoth m n a b old new → HasReadBoth k l a b old new
  both-within {m} {n} {a} {b} k l of_old of_new read = grind arith

  pub both-then : {m n k l a b : ℕ} {old mid new : Images F G} → HasReadBoth m n 0 0 old mid
      → HasReadBoth k l a b mid new → HasReadBoth (m + k) (n + l) a b old new
  both-then {m} {n} {k} {l} {a} {b} first second = grind arith

  -- a result with the fault of the reads
  pub both-handed : {T : Type 0} {m n : ℕ} {old new : Images F G} (result : Result T ChangeFault) (fault : ChangeFault) → IsErrAnd result (λ e. e ≡ fault)
      → HasReadBoth m n (by_old fault) (by_new fault) old new → HasReadFor m n old new result
  both-handed (Ok done) fault is read = absurd is
  both-handed (Err other) fault is read = rw is read

  -- a property of the bytes after reads held before
  pub OnBoth-before : {m n : ℕ} {old new : Images F G} (P : List ℕ → List ℕ → Type 0)
      → HasReadBoth m n 0 0 old new → OnBoth new P → OnBoth old P
  OnBoth-before {old = old} {new = new} P read on = grind arith

  -- reads keep the lengths
  pub lengths-same : {m n a b : ℕ} {old new : Images F G} → HasReadBoth m n a b old new → lengths new ≡ lengths old
  lengths-same {m} {n} {a} {b} {old} {new} read = grind arith
