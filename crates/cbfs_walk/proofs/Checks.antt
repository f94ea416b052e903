-- The checks of a head, and entries.
use Rattle.std.proofs.lemmas.Grind.{common_steps}
use Rattle.std.proofs.Common.{◌≡◌, ℕ, ◌+◌, ◌-◌, ◌%◌, ◌≤◌, false, List, length, drop, length-drop, Some, None, Result, Ok, refl, sym, ap, ◌∙◌, arith}
use Rattle.flash_format.specs.declared.head.Head.{Head}
use Rattle.flash_format.specs.declared.head.Extent.{Extent}
use Rattle.flash_format.specs.declared.head.DamageKind.{DamageKind}
use Rattle.flash_format.specs.Head.{is_free, extent_of, round64}
use Rattle.flash_format.specs.Entry.{absent, entry, front, present, name_end}
use Rattle.flash_format.proofs.CutSteps.{checked_ok}
use Rattle.flash_format.proofs.EntryLaws.{name_between}
use Rattle.cbfs_walk.specs.Cells.{PassesChecks}
use Rattle.cbfs_walk.specs.declared.cell.Cell.{Cell}

pub record IsGood (left : ℕ) (h : Head) (span : ℕ) : Type 0 where
  pub room : 24 ≤ h.offset
  pub fits : h.offset + h.len ≤ span
  pub inside : h.offset + h.len ≤ left
  pub positive : 64 ≤ span
  pub whole : span % 64 ≡ 0
  pub within : left % 64 ≡ 0 → span ≤ left
  pub name_low : is_free h ≡ false → 24 ≤ name_end h
  pub name_high : is_free h ≡ false → name_end h ≤ h.offset

pub checks_give : (left : ℕ) (h : Head) (span : ℕ) → extent_of h left ≡ Ok (record { content = h.offset; span = span }) → IsGood left h span
checks_give left h span ok =
    let k = checked_ok h left (record { content = h.offset; span = span }) ok in
    let some : 24 ≤ h.offset + h.len = omega (arith, k.front) in
    let r = rounds left (h.offset + h.len) some k.inside in
    rw k.span (record {
      room = k.front;
      fits = r.3;
      inside = k.inside;
      positive = r.0;
      whole = r.1;
      within = r.2;
      name_low = λ used. (name_between h (k.placed used) k.front).0;
      name_high = λ used. (name_between h (k.placed used) k.front).1;
    })
  where
    rounds : (left n : ℕ) → 24 ≤ n → n ≤ left → (64 ≤ round64 n) × (round64 n % 64 ≡ 0) × (left % 64 ≡ 0 → round64 n ≤ left) × (n ≤ round64 n)
    rounds left n some le = (omega arith, omega arith, λ h. omega arith, omega arith)

-- a checked content ends in the cell and the region
pub record ContentFits (size : ℕ) (c : Cell) : Type 0 where
  pub in_cell : c.head.offset + c.head.len ≤ c.span
  pub in_region : c.at + (c.head.offset + c.head.len) ≤ size

pub content_fits : (size : ℕ) (c : Cell) → PassesChecks size c → ContentFits size c
content_fits size c ok = let k = checks_give (size - c.at) c.head c.span ok in record { in_cell = k.fits; in_region = omega (arith, k.room, k.inside) }

pub checked_extent : (h : Head) (left : ℕ) (e : Extent) → Ok e ≡ extent_of h left → extent_of h left ≡ Ok (record { content = h.offset; span = e.span })
checked_extent h left e is = grind (arith, common_steps, checked_ok)

-- ---- entries

pub entry_absent : (x : List ℕ) → None ≡ front x → absent ≡ entry x
unfolding entry
entry_absent x f = rw (← f) refl

-- the entry of a head, by its checks
pub entry_present : (x : List ℕ) (h : Head) (left : ℕ) (r : Result Extent DamageKind) → Some h ≡ front x → length x ≡ left → r ≡ extent_of h left → present h x r ≡ entry x
unfolding entry
entry_present x h left r f n e = rw (← f) (ap (present h x) (e ∙ ap (extent_of h) (sym n)))

-- the entry at a checked cell's head
pub entry_checked : (x : List ℕ) (size : ℕ) (c : Cell) → length x ≡ size → PassesChecks size c → front (drop c.at x) ≡ Some c.head → present c.head (drop c.at x) (Ok (record { content = c.head.offset; span = c.span })) ≡ entry (drop c.at x)
entry_checked x size c len is head = entry_present (drop c.at x) c.head (size - c.at) _ (sym head) (omega (arith, length-drop c.at x, len)) (sym is)
