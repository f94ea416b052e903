-- Arguments and paths as messages quote them: this project's own texts.
use Rattle.std.specs.Prelude.{ℕ, List, ◌++◌}
use lib.Chars.{codes}
use Rattle.quoted_text.specs.Shown.{shown}
use Rattle.check_line.specs.declared.fault.LineFault.{LineFault}
use Rattle.check_line.specs.declared.fault.LineFault.TheVariants.{Word, NoImage, NoNewImage}
use Rattle.check_line.specs.declared.fault.LineFault.TheVariants.{NestedFile, Memory}
use Rattle.check_line.specs.declared.fault.WordFault.{WordFault}
use Rattle.check_line.specs.declared.fault.WordFault.TheVariants as mistake

-- ---- the messages of a refused line

abbrev pub mistake_text : WordFault → List ℕ
mistake_text mistake.UnknownOption = codes "unknown option"
mistake_text mistake.TooManyPaths = codes "too many images:"
mistake_text mistake.MissingValue = codes "no value for option"
mistake_text mistake.UnneededValue = codes "unexpected value in"
mistake_text mistake.GivenTwice = codes "an option is given twice at"
mistake_text mistake.BadAreas = codes "bad list of areas"
mistake_text mistake.BadNeed = codes "bad need"

abbrev pub word_text : WordFault → List ℕ → List ℕ
word_text fault word = mistake_text fault ++ codes " '" ++ shown word ++ codes "'"

-- the line of an option file with this path that names another option file
abbrev pub nested_text : List ℕ → List ℕ → List ℕ
nested_text path line =
    shown path ++ codes ": option files do not nest: '" ++ shown line ++ codes "'"

abbrev pub fault_text : LineFault → List ℕ
fault_text (Word fault word) = word_text fault word.now
fault_text NoImage = codes "no image"
fault_text NoNewImage = codes "--flash, --keep and --keep-preserved need two images"
fault_text (NestedFile path line) = nested_text path.now line.now
fault_text Memory = codes "out of memory"
