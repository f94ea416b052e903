-- The state of a descriptor.
use Rattle.std.proofs.Common.{◌≡◌, true, false, List, ℕ, refl}
use Rattle.board_structures.specs.Filling.{each_byte_is, first_page}
use Rattle.board_structures.specs.Descriptors.{descriptor_in, state_of_page}
use Rattle.board_structures.specs.declared.descriptor.Descriptor.TheVariants as states

pub blank_descriptor : (x : List ℕ) → each_byte_is 0xff x ≡ true → states.Blank ≡ descriptor_in x
unfolding descriptor_in
blank_descriptor x blank = rw blank refl

pub page_state : (x : List ℕ) → each_byte_is 0xff x ≡ false → state_of_page (first_page x) ≡ descriptor_in x
unfolding descriptor_in
page_state x content = rw content refl
