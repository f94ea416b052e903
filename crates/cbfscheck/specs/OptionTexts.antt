-- The arguments of a command line, with the texts of their option files.
use Rattle.std.specs.Prelude.{ℕ, ◌<◌, ◌≤◌, ◌≡◌, ⊤, List, length, map}
use Rattle.std.specs.Prelude.{Result, Ok, Err, String, string_bytes}
use Rattle.std.specs.Str.{IsUtf8}
use Rattle.std.specs.declared.alloc.Global.{Global}
use Rattle.check_line.specs.OptionFiles.{file_of, path_of, written}
use Rattle.check_line.specs.declared.option_files.Argument.{Argument}
use Rattle.cbfscheck.specs.declared.refusal.OptionsFault.{OptionsFault}
use Rattle.cbfscheck.specs.declared.refusal.OptionsFault.TheVariants as faults

-- the size of the largest option file
abbrev pub largest : ℕ
largest = 65536

-- the text of this content, or the reason why the content is no text
abbrev pub IsTextOf : List ℕ → Result (String Global) OptionsFault → Type 0
IsTextOf content (Ok text) = (length content ≤ largest) × (string_bytes text ≡ content)
IsTextOf content (Err faults.TooLarge) = largest < length content
IsTextOf content (Err faults.NotUtf8) = (length content ≤ largest) × ¬ (IsUtf8 content)
IsTextOf content (Err (faults.Unread fault)) = ⊥

-- the failure of a read
abbrev pub IsUnread : Result (String Global) OptionsFault → Type 0
IsUnread (Err (faults.Unread fault)) = ⊤
IsUnread _ = ⊥

-- The arguments are the given words in this order, and each `@PATH` is the file with this path.
pub record AreGiven (words : List (String Global)) (arguments : List Argument) : Type 0 where
  pub in_order : map written arguments ≡ map string_bytes words
  pub paths : map file_of arguments ≡ map (λ word. path_of (string_bytes word)) words
