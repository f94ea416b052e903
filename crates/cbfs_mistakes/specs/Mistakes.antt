-- The mistake of a command line.
use Rattle.std.specs.Prelude.{◌≡◌, ◌≢◌, ◌⊎◌, ℕ, List, [], ◌∷◌, Option, Some, None, option_map}
use Rattle.std.specs.Borrow.{Bor}
use Rattle.clap.specs.declared.error.kind.ErrorKind.{ErrorKind}
use Rattle.clap.specs.declared.error.kind.ErrorKind.TheVariants as reason
use Rattle.cbfs_line.specs.CommandLine.{Texts, texts_of}
use Rattle.cbfs_mistakes.specs.Lines.{Cause, cause_of}
use Rattle.cbfs_mistakes.specs.Lines as causes
use Rattle.cbfs_mistakes.specs.WrongWords.{commandless, AreSearched, IsRefusedFor, IsWrong, Words, texts, word_mistake}
use Rattle.cbfs_mistakes.specs.declared.mistake.Mistake.{Mistake}
use Rattle.cbfs_mistakes.specs.declared.mistake.Mistake.TheVariants as mistakes
use Rattle.cbfs_mistakes.specs.declared.mistake.WordFault.TheVariants as faults

-- the cause of a mistake, for a line that clap accepts
abbrev pub named_cause : Mistake → Option Cause
named_cause (mistakes.Missing command options) = Some (causes.missing command.now options)
named_cause mistakes.TwoPlaces = Some causes.two_places
named_cause (mistakes.BadNumber option value) = Some (causes.bad_number option value.now)
named_cause (mistakes.UnknownType value) = Some (causes.unknown_type value.now)
named_cause (mistakes.UnknownHash value) = Some (causes.unknown_hash value.now)
named_cause (mistakes.EmptyRegion list) = Some (causes.empty_region list.now)
named_cause mistakes.TooManyRegions = Some causes.too_many_regions
named_cause (mistakes.Word faults.UnknownCommand word) = Some (causes.unknown_command word.now)
named_cause _ = None

-- the mistake names the cause, and a line without a cause has no mistake
abbrev pub Names : Option Cause → Option Mistake → Type 0
Names cause m = option_map named_cause m ≡ option_map Some cause

-- clap refuses the argument, or a command is missing
abbrev pub IsRefusal : Bor (List ℕ) → Words → Mistake → Type 0
IsRefusal image words m =
    ((m ≡ commandless image) × IsRefusedFor reason.MissingSubcommand words)
    ⊎ ((kind : ErrorKind) × (kind ≢ reason.MissingSubcommand)
    × ((searched : Words) × AreSearched kind words searched
    × ((before : Option (Bor (List ℕ))) × ((word : Bor (List ℕ))
    × IsWrong kind searched before word × (m ≡ word_mistake kind image before word)))))

-- clap accepts the arguments, and the mistake names the first cause to refuse the line
abbrev pub IsBadLine : Words → Mistake → Type 0
IsBadLine words m = (line : Texts) × (Some line ≡ texts_of (texts words))
    × Names (cause_of line) (Some m)

abbrev pub IsMistake : Words → Mistake → Type 0
IsMistake [] m = m ≡ mistakes.NoImage
IsMistake (image ∷ rest) m = IsRefusal image rest m ⊎ IsBadLine (image ∷ rest) m
