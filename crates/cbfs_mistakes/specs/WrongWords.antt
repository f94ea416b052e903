-- The wrong argument of a line that clap refuses.
use Rattle.std.specs.Prelude.{ℕ, zero, suc, Bool, List, [], map, take, length, ◌<◌, ◌≤◌, ◌≡◌, ◌≢◌}
use Rattle.std.specs.Prelude.{◌⊎◌, ◌&&◌, Option, Some, None, nat_eq, nat_lt, slice_get}
use Rattle.std.specs.Prelude.{if◌then◌else◌}
use Rattle.std.specs.Borrow.{Bor}
use Rattle.std.specs.List.{starts_with}
use Rattle.std.specs.Option.{option_map_or}
use lib.Chars.{codes}
use Rattle.clap.specs.Words.{IsAmong, fault_of}
use Rattle.clap.specs.declared.error.kind.ErrorKind.{ErrorKind}
use Rattle.clap.specs.declared.error.kind.ErrorKind.TheVariants as reason
use Rattle.cbfs_line.specs.Subcommands.{command_line}
use Rattle.cbfs_mistakes.specs.Synopses.{is_command}
use Rattle.cbfs_mistakes.specs.declared.mistake.Mistake.{Mistake}
use Rattle.cbfs_mistakes.specs.declared.mistake.Mistake.TheVariants.{NoCommand, Swapped, Word}
use Rattle.cbfs_mistakes.specs.declared.mistake.WordFault.TheVariants as faults

abbrev pub Words : Type 0
Words = List (Bor (List ℕ))

abbrev pub texts : Words → List (List ℕ)
texts words = map (λ (word : Bor (List ℕ)). word.now) words

-- clap refuses the arguments after IMAGE, and may give the reason `kind`
abbrev pub IsRefusedFor : ErrorKind → Words → Type 0
IsRefusedFor kind words = IsAmong kind (fault_of command_line (texts words))

-- accepted, or refused for another reason
abbrev pub Spares : ErrorKind → Words → Type 0
Spares kind words = (fault_of command_line (texts words) ≡ [])
    ⊎ ((other : ErrorKind) × (other ≢ kind) × IsRefusedFor other words)

-- the argument before the n-th
abbrev pub previous : Words → ℕ → Option (Bor (List ℕ))
previous words zero = None
previous words (suc n) = slice_get words n

-- Earlier arguments alone aren't refused for the reason `kind`. Together with the wrong argument,
-- and any number of later arguments, they are refused.
pub record IsWrong (kind : ErrorKind) (words : Words) (before : Option (Bor (List ℕ)))
    (word : Bor (List ℕ)) : Type 0 where
  pub n : ℕ
  pub here : slice_get words n ≡ Some word
  pub preceding : before ≡ previous words n
  pub spared : Spares kind (take n words)
  pub from : (m : ℕ) → n < m → m ≤ length words → IsRefusedFor kind (take m words)

-- the search for the wrong argument covers all arguments, or at least 64
abbrev pub least_searched : ℕ
least_searched = 64

-- The line and the searched arguments are both refused for the reason `kind`. The searched
-- arguments are all arguments, or at least the first 64.
pub record AreSearched (kind : ErrorKind) (words searched : Words) : Type 0 where
  pub whole : IsRefusedFor kind words
  pub refused : IsRefusedFor kind searched
  pub first : searched ≡ take (length searched) words
  pub far : (searched ≡ words) ⊎ (least_searched ≤ length searched)

-- `-` and more
abbrev pub is_option : List ℕ → Bool
is_option word = starts_with nat_eq word (codes "-") && nat_lt 1 (length word)

-- An image without a command. Options follow the command.
abbrev pub commandless : Bor (List ℕ) → Mistake
commandless image =
    if is_option image.now then Word faults.EarlyOption image else NoCommand image

-- An argument unknown to clap.
abbrev pub unknown : Bor (List ℕ) → Option (Bor (List ℕ)) → Bor (List ℕ) → Mistake
unknown image None word = if is_option word.now then Word faults.EarlyOption word
    else (if is_option image.now then Word faults.EarlyOption image
    else (if is_command image.now then Swapped word image else Word faults.UnknownCommand word))
unknown image (Some before) word =
    Word (if is_option word.now then faults.UnknownOption else faults.Unexpected) word

-- the argument itself if an option or the first argument, or else the preceding option
abbrev pub option_at : Option (Bor (List ℕ)) → Bor (List ℕ) → Bor (List ℕ)
option_at before word = if is_option word.now then word
    else option_map_or (λ option. option) before word

-- the mistake of the wrong argument, by clap's reason, the image and the preceding argument
abbrev pub word_mistake : ErrorKind → Bor (List ℕ) → Option (Bor (List ℕ)) → Bor (List ℕ) → Mistake
word_mistake reason.DisplayHelp image before word = Word faults.Help word
word_mistake reason.InvalidValue image before word = Word faults.MissingValue word
word_mistake reason.ArgumentConflict image before word =
    Word faults.GivenTwice (option_at before word)
word_mistake kind image before word = unknown image before word
