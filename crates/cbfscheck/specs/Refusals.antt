-- Refusals with their texts, and exit statuses: this project's own.
use Rattle.std.specs.Prelude.{ℕ, Bool, List, ◌++◌, Result, Ok, Err, if◌then◌else◌, unwrap_or}
use Rattle.std.specs.Borrow.{Bor}
use Rattle.std.specs.declared.io.ErrorKind.TheVariants as kinds
use lib.Chars.{codes}
use Rattle.check_line.specs.Shown.{fault_text}
use Rattle.quoted_text.specs.Shown.{shown}
use Rattle.check_line.specs.declared.fault.LineFault.{LineFault}
use Rattle.check_line.specs.declared.fault.LineFault.TheVariants as lines
use Rattle.check_line.specs.declared.line.CheckLine.{CheckLine}
use Rattle.check_changes.specs.declared.fault.ChangeFault.{ChangeFault}
use Rattle.check_changes.specs.declared.fault.ChangeFault.TheVariants as changes
use Rattle.check_report.specs.declared.fault.WriteFault.{WriteFault}
use Rattle.check_report.specs.declared.fault.WriteFault.TheVariants as writes
use Rattle.flash_store.specs.declared.open_fault.OpenFault.{OpenFault}
use Rattle.flash_store.specs.declared.open_fault.OpenFault.TheVariants as opens
use Rattle.cbfscheck.specs.declared.refusal.FileFault.{FileFault}
use Rattle.cbfscheck.specs.declared.refusal.FileFault.TheVariants as files
use Rattle.cbfscheck.specs.declared.refusal.OptionsFault.{OptionsFault}
use Rattle.cbfscheck.specs.declared.refusal.OptionsFault.TheVariants as options
use Rattle.cbfscheck.specs.declared.refusal.Refusal.{Refusal}
use Rattle.cbfscheck.specs.declared.refusal.Refusal.TheVariants as refusals

-- ---- from the fault of a step

abbrev pub of_line : LineFault → Refusal
of_line lines.Memory = refusals.Memory
of_line fault = refusals.Line fault

abbrev pub of_writing : WriteFault → Refusal
of_writing writes.Memory = refusals.Memory
of_writing writes.Output = refusals.Output

-- a file that is not opened
abbrev pub of_opening : Bor (List ℕ) → OpenFault → Refusal
of_opening path opens.Memory = refusals.Memory
of_opening path opens.TooLarge = refusals.File path files.LargeImage
of_opening path (opens.Failed kinds.NotFound) = refusals.File path files.NotFound
of_opening path (opens.Failed kinds.PermissionDenied) = refusals.File path files.NoPermission
of_opening path (opens.Failed kinds.IsADirectory) = refusals.File path files.IsDirectory
of_opening path (opens.Failed kind) = refusals.File path files.Device

-- an option file without text
abbrev pub of_options : Bor (List ℕ) → OptionsFault → Refusal
of_options path (options.Unread fault) = of_opening path fault
of_options path options.TooLarge = refusals.File path files.LargeOptions
of_options path options.NotUtf8 = refusals.File path files.OptionsNotUtf8

-- the new image, or else the only one
abbrev pub newest : CheckLine → Bor (List ℕ)
newest line = unwrap_or line.new_image line.image

-- the image that could not be read
abbrev pub of_report : CheckLine → ChangeFault → Refusal
of_report line changes.Memory = refusals.Memory
of_report line changes.OldDevice = refusals.File line.image files.Device
of_report line changes.NewDevice = refusals.File (newest line) files.Device

-- ---- texts

abbrev pub file_text : FileFault → List ℕ
file_text files.NotFound = codes "No such file or directory"
file_text files.NoPermission = codes "Permission denied"
file_text files.IsDirectory = codes "Is a directory"
file_text files.Device = codes "device fault"
file_text files.LargeImage = codes "image too large"
file_text files.LargeOptions = codes "option file larger than 64 KiB"
file_text files.OptionsNotUtf8 = codes "option file is not UTF-8"

abbrev pub path_text : List ℕ → FileFault → List ℕ
path_text path fault = shown path ++ codes ": " ++ file_text fault

abbrev pub refusal_text : Refusal → List ℕ
refusal_text (refusals.Line fault) = fault_text fault ++ codes " (see cbfscheck --help)"
refusal_text refusals.Words = codes "an argument is not UTF-8"
refusal_text refusals.Memory = codes "out of memory"
refusal_text refusals.Output = codes "output fault"
refusal_text refusals.Random = codes "no random numbers"
refusal_text (refusals.File path fault) = path_text path.now fault

-- the line on standard error
abbrev pub message : Refusal → List ℕ
message refusal = codes "cbfscheck: " ++ refusal_text refusal ++ codes "\n"

-- ---- exit statuses: 0 if nothing is bad, 1 if a finding is bad, 2 without a complete report

abbrev pub status_of : Result Bool Refusal → ℕ
status_of (Ok is_bad) = if is_bad then 1 else 0
status_of (Err refusal) = 2
