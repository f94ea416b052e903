-- The state of a reset vector.
use Rattle.std.proofs.Common.{◌≡◌, ◌-◌, ◌+◌, ◌<◌, ◌≤◌, ◌∙◌, List, ℕ, length, refl, ap, arith}
use Rattle.std.specs.Prelude.{slice_range}
use Rattle.std.proofs.lemmas.Bool.{lt-ltb, le-ltb}
use Rattle.board_structures.specs.ResetVectors.{reset_vector_in, state_of_code}
use Rattle.board_structures.specs.declared.reset_vector.ResetVector.TheVariants as states

pub cut_off : (image : List ℕ) → length image < 16 → states.CutOff ≡ reset_vector_in image
unfolding reset_vector_in
cut_off image short = rw (lt-ltb (length image) 16 short) refl

pub code_state : (image : List ℕ) (len : ℕ) → len ≡ length image → 16 ≤ len → state_of_code (slice_range image (len - 16) (len - 16 + 12)) ≡ reset_vector_in image
unfolding reset_vector_in
code_state image len is long =
    let long_image : 16 ≤ length image = omega (arith, is, long) in
    ap (λ n. state_of_code (slice_range image (n - 16) (n - 16 + 12))) is
    ∙ ap (λ e. state_of_code (slice_range image (length image - 16) e)) {x = length image - 16 + 12} {y = length image - 4} (omega (arith, long_image))
    ∙ rw (le-ltb (length image) 16 long_image) refl
