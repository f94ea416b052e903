-- Texts as messages quote them: this project's own form.
use Rattle.std.specs.Prelude.{ℕ, Bool, List, [], ◌∷◌, ◌&&◌, chars, encode_utf8, nat_le, if◌then◌else◌}
use Rattle.std.specs.List.{flat_map, list_any}
use Rattle.flash_format.specs.Texts.{printed_name}

-- the first and the last of each range of Unicode's characters that control a terminal (also DEL),
-- have no shape, or change the direction of others
abbrev pub hidden_ranges : List (ℕ × ℕ)
hidden_ranges = (0x0, 0x1f) ∷ (0x7f, 0x9f) ∷ (0xad, 0xad) ∷ (0x34f, 0x34f) ∷ (0x61c, 0x61c)
    ∷ (0x115f, 0x1160) ∷ (0x17b4, 0x17b5) ∷ (0x180b, 0x180f) ∷ (0x200b, 0x200f)
    ∷ (0x2028, 0x202e) ∷ (0x2060, 0x206f) ∷ (0x3164, 0x3164) ∷ (0xfe00, 0xfe0f)
    ∷ (0xfeff, 0xfeff) ∷ (0xffa0, 0xffa0) ∷ (0xfff0, 0xfffb) ∷ (0x1bca0, 0x1bca3)
    ∷ (0x1d173, 0x1d17a) ∷ (0xe0000, 0xe0fff) ∷ []

abbrev pub is_within : ℕ → ℕ × ℕ → Bool
is_within c range = nat_le range.0 c && nat_le c range.1

unfoldable pub is_hidden : ℕ → Bool
is_hidden c = list_any (is_within c) hidden_ranges

-- `\x` and two digits for each byte of a hidden character
abbrev pub shown_char : ℕ → List ℕ
shown_char c = if is_hidden c then printed_name (encode_utf8 c) else encode_utf8 c

abbrev pub shown : List ℕ → List ℕ
shown text = flat_map shown_char (chars text)
