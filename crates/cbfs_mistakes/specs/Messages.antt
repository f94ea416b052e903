-- The lines that explain a refused command line: this project's own texts.
use Rattle.std.specs.Prelude.{ℕ, Bool, not, List, [], ◌++◌, ◌==◌, ◌||◌, drop, filter, map, if◌then◌else◌}
use Rattle.std.specs.Prelude.{slice_get}
use Rattle.std.specs.Borrow.{Bor}
use Rattle.std.specs.List.{flat_map}
use Rattle.std.specs.Option.{option_map_or}
use lib.Chars.{codes}
use Rattle.flash_format.specs.TypeNames.{type_table}
use Rattle.quoted_text.specs.Shown.{shown}
use Rattle.cbfs_mistakes.specs.Suggestions.{suggestion}
use Rattle.cbfs_mistakes.specs.Synopses.{usage_of}
use Rattle.cbfs_mistakes.specs.WrongWords.{Words}
use Rattle.cbfs_mistakes.specs.declared.mistake.MissingOptions.{MissingOptions}
use Rattle.cbfs_mistakes.specs.declared.mistake.Mistake.{Mistake}
use Rattle.cbfs_mistakes.specs.declared.mistake.Mistake.TheVariants as mistakes
use Rattle.cbfs_mistakes.specs.declared.mistake.NumberOption.{NumberOption}
use Rattle.cbfs_mistakes.specs.declared.mistake.NumberOption.TheVariants as numbers
use Rattle.cbfs_mistakes.specs.declared.mistake.WordFault.{WordFault}
use Rattle.cbfs_mistakes.specs.declared.mistake.WordFault.TheVariants as faults

-- between quotation marks
abbrev pub quoted : List ℕ → List ℕ
quoted text = codes "'" ++ shown text ++ codes "'"

-- an argument after a text, and between two
abbrev pub ending : List ℕ → List ℕ → List ℕ
ending before word = before ++ quoted word

abbrev pub between : List ℕ → List ℕ → List ℕ → List ℕ
between before word after = before ++ quoted word ++ after

-- two arguments, without quotation marks, with a text before each
abbrev pub pair : List ℕ → List ℕ → List ℕ → List ℕ → List ℕ
pair before first middle second = before ++ shown first ++ middle ++ shown second

-- a region and a component, with a text between them
abbrev pub named : List ℕ → List ℕ → List ℕ → List ℕ
named region middle name = ending (codes "cbfstool: the region ") region
    ++ between middle name (codes "\n")

-- the texts before and after the argument
abbrev pub word_texts : WordFault → List ℕ × List ℕ
word_texts faults.Help = (codes "", codes " is not supported: see the manual page cbfstool(1)")
word_texts faults.EarlyOption = (codes "", codes " precedes the command: options follow it")
word_texts faults.UnknownCommand = (codes "", codes " is no command")
word_texts faults.UnknownOption = (codes "", codes " is no option of this command")
word_texts faults.MissingValue = (codes "option ", codes " has no value")
word_texts faults.GivenTwice = (codes "option ", codes " is given twice")
word_texts faults.Unexpected = (codes "", codes " is not expected")

abbrev pub when : Bool → List ℕ → List ℕ
when given text = if given then text else []

-- in the order of the synopsis
abbrev pub missing_text : MissingOptions → List ℕ
missing_text options = when options.flash_map (codes " -M FLASHMAP")
    ++ when options.name (codes " -n NAME") ++ when options.file (codes " -f FILE")
    ++ when options.kind (codes " -t TYPE")

abbrev pub number_text : NumberOption → List ℕ
number_text numbers.Alignment =
    codes "-a takes a number below 2^32 such as 4096 or 0x1000, not "
number_text numbers.Base = codes "-b takes a number below 2^32 such as 4096 or 0x1000, not "

-- each name after a comma and a blank, but the first after a colon
abbrev pub listed : List (List ℕ) → List ℕ
listed names = codes ": " ++ drop 2 (flat_map (λ name. codes ", " ++ name) names)

-- the types of components: all types except free space
abbrev pub types_text : List ℕ
types_text = listed (map (λ row. row.1)
    (filter (λ row. not (row.0 == 0 || row.0 == 0xffffffff)) type_table))

abbrev pub mistake_text : Mistake → List ℕ
mistake_text mistakes.NoImage = codes "no arguments"
mistake_text mistakes.NotText = codes "an argument is not UTF-8"
mistake_text (mistakes.NoCommand image) = ending (codes "no command after the image ") image.now
mistake_text (mistakes.Swapped image command) =
    pair (codes "the image comes before the command: cbfstool ") image.now (codes " ") command.now
mistake_text (mistakes.Word fault word) =
    between (word_texts fault).0 word.now (word_texts fault).1
mistake_text (mistakes.Missing command options) =
    shown command.now ++ codes " needs" ++ missing_text options
mistake_text mistakes.TwoPlaces = codes "-a and -b exclude each other"
mistake_text (mistakes.BadNumber option value) = ending (number_text option) value.now
mistake_text (mistakes.UnknownType value) =
    between (codes "-t takes a number below 2^32 or one of these names, not ") value.now types_text
mistake_text (mistakes.UnknownHash value) =
    ending (codes "-A takes sha256 or sha512, not ") value.now
mistake_text (mistakes.EmptyRegion list) = ending (codes "-r has an empty name in ") list.now
mistake_text mistakes.TooManyRegions = codes "-r takes at most 16 names"

-- the command of the printed usage: after the image, or before the image by mistake
abbrev pub meant_command : Words → Mistake → List ℕ
meant_command words (mistakes.Swapped image command) = command.now
meant_command words m = option_map_or (λ (word : Bor (List ℕ)). word.now) (slice_get words 1) []

-- a line for the mistake, the known command or option near a wrong argument, and the usage
abbrev pub explanation : Words → Mistake → List ℕ
explanation words m = codes "cbfstool: " ++ mistake_text m ++ codes "\n"
    ++ suggestion (meant_command words m) m ++ usage_of (meant_command words m)
