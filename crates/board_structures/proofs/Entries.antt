-- The entries of a Firmware Interface Table, one after the other.
use Rattle.std.proofs.Common.{◌≡◌, ◌∙◌, ℕ, suc, ◌+◌, ◌-◌, ◌*◌, ◌<◌, List, Some, None, Result, Ok, Err, ap, arith}
use Rattle.board_structures.specs.FirmwareTables.{entries_fault, entry_at, entry_len, entry_result, or_later}
use Rattle.board_structures.specs.declared.firmware_table.UpdateFault.{UpdateFault}

module _ (count number left place : ℕ) (image : List ℕ) where
  abbrev pub result : Result ℕ UpdateFault
  result = entry_result left image (entry_at (place + entry_len * number) image)

  first_entry : number < count → entries_fault (count - number) number left place image ≡ or_later number (λ n. entries_fault (count - (number + 1)) (number + 1) (left - n) place image) result
  unfolding entries_fault
  first_entry less =
      ap (λ k. entries_fault k number left place image) {x = count - number} {y = suc (count - (number + 1))} (omega (arith, less))
      ∙ ap (λ m. or_later number (λ n. entries_fault (count - (number + 1)) m (left - n) place image) result) {x = suc number} {y = number + 1} (omega arith)

  -- an entry without a fault
  pub good_entry : (n : ℕ) → number < count → result ≡ Ok n → entries_fault (count - number) number left place image ≡ entries_fault (count - (number + 1)) (number + 1) (left - n) place image
  good_entry n less is = first_entry less ∙ ap (or_later number (λ n. entries_fault (count - (number + 1)) (number + 1) (left - n) place image)) is

  -- an entry with a fault
  pub bad_entry : (fault : UpdateFault) → number < count → result ≡ Err fault → entries_fault (count - number) number left place image ≡ Some (record { number = number; fault = fault })
  bad_entry fault less is = first_entry less ∙ ap (or_later number (λ n. entries_fault (count - (number + 1)) (number + 1) (left - n) place image)) is

  pub no_entry : count - number ≡ 0 → entries_fault (count - number) number left place image ≡ None
  unfolding entries_fault
  no_entry none = ap (λ k. entries_fault k number left place image) none
