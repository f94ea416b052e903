-- The line that names the region, component or file of a refusal: this project's own texts. The
-- reasons have the texts of the C library.
use Rattle.std.specs.Prelude.{ℕ, List, [], Option, Some, unwrap_or, if◌then◌else◌}
use Rattle.std.specs.Str.{bytes_eq}
use Rattle.std.specs.declared.io.ErrorKind.{ErrorKind}
use Rattle.std.specs.declared.io.ErrorKind.TheVariants as kinds
use lib.Chars.{codes}
use Rattle.cbfs_requests.specs.declared.refusal.Refusal.{Refusal}
use Rattle.cbfs_requests.specs.declared.refusal.Refusal.TheVariants as refusals
use Rattle.cbfs_line.specs.CommandLine.{Texts, region_named, text}
use Rattle.cbfs_mistakes.specs.Messages.{between, named}

-- `create` takes a list
abbrev pub region_text : Texts → List ℕ
region_text t = if bytes_eq t.subcommand (codes "create")
    then codes "cbfstool: one of these is no area of the flash map: "
    else codes "cbfstool: the flash map has no area "

-- the value of `-n`
abbrev pub name_given : Texts → List ℕ
name_given t = unwrap_or (text t "name") []

-- the reason for a file that is not opened
abbrev pub reason_text : Option ErrorKind → List ℕ
reason_text (Some kinds.NotFound) = codes ": No such file or directory\n"
reason_text (Some kinds.PermissionDenied) = codes ": Permission denied\n"
reason_text (Some kinds.IsADirectory) = codes ": Is a directory\n"
reason_text reason = codes "\n"

-- the image or the file with the reason, the region, or the region and the component of `-n`
abbrev pub subject : Texts → Option ErrorKind → Refusal → List ℕ
subject t reason refusals.Device =
    between (codes "cbfstool: fault of the image ") t.image (reason_text reason)
subject t reason refusals.Source = between (codes "cbfstool: fault of the file ")
    (unwrap_or (text t "file") []) (reason_text reason)
subject t reason refusals.NoRegion = between (region_text t) (region_named t) (codes "\n")
subject t reason refusals.NotFound =
    named (region_named t) (codes " has no component ") (name_given t)
subject t reason refusals.Exists =
    named (region_named t) (codes " has a component ") (name_given t)
subject t reason refusal = []
