-- The reset vector of x86: the processor's first instruction is 16 bytes before the end of the
-- image.
use Rattle.std.specs.Prelude.{ℕ, ◌-◌, Bool, true, false, List, length, slice_range, nat_lt, if◌then◌else◌}
use Rattle.board_structures.specs.Filling.{each_byte_is}
use Rattle.board_structures.specs.declared.reset_vector.ResetVector.{ResetVector}
use Rattle.board_structures.specs.declared.reset_vector.ResetVector.TheVariants as states

-- ---- the layout
--
-- | offset          | bytes | field                                                       |
-- | --------------- | ----- | ----------------------------------------------------------- |
-- | the end - 0x10  | 12    | the code                                                    |
-- | the end - 4     | 4     | coreboot's place of the master header, which is no code     |

abbrev pub code_in : List ℕ → List ℕ
code_in image = slice_range image (length image - 16) (length image - 4)

abbrev pub state_of_code : List ℕ → ResetVector
state_of_code code = if each_byte_is 0xff code then states.Erased
    else (if each_byte_is 0x00 code then states.Cleared else states.Code)

unfoldable pub reset_vector_in : List ℕ → ResetVector
reset_vector_in image = if nat_lt (length image) 16 then states.CutOff
    else state_of_code (code_in image)

-- the board doesn't boot
abbrev pub is_bad : ResetVector → Bool
is_bad states.CutOff = true
is_bad states.Erased = true
is_bad states.Cleared = true
is_bad states.Code = false
