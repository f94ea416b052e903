-- The files of a command, and the order of its steps.
use Rattle.std.specs.Prelude.{Bool, true, false, List, [], ◌∷◌, ◌++◌, if◌then◌else◌}
use Rattle.flash_store.specs.declared.os_file.Lock.{Lock}
use Rattle.flash_store.specs.declared.os_file.Lock.TheVariants.{Shared, Exclusive}
use Rattle.cbfs_requests.specs.Requests.{Request, layout, on_region, print, extract, add}
use Rattle.cbfs_requests.specs.Requests.{read, write, create}
use Rattle.cbfs_steps.specs.declared.steps.FileUse.{FileUse}
use Rattle.cbfs_steps.specs.declared.steps.FileUse.TheVariants.{Unused, Input, Output, NewMap}
use Rattle.cbfs_steps.specs.declared.steps.Step.{Step}
use Rattle.cbfs_steps.specs.declared.steps.Step.TheVariants.{OpenImage, OpenInput, MakeOutput, CreateImage, Run, Unlock, WriteOutput, Store}

-- the command never changes the image
abbrev pub only_reads : Request → Bool
only_reads layout = true
only_reads (on_region region (print verbose)) = true
only_reads (on_region region (extract name)) = true
only_reads (on_region region read) = true
only_reads request = false

abbrev pub lock_of : Request → Lock
lock_of request = if only_reads request then Shared else Exclusive

-- the file of `-f` or `-M`
abbrev pub file_use : Request → FileUse
file_use (on_region region (extract name)) = Output
file_use (on_region region read) = Output
file_use (on_region region (add name kind hash spot)) = Input
file_use (on_region region write) = Input
file_use (create regions) = NewMap
file_use request = Unused

-- IMAGE is opened before FILE; a new image is created after its map is read
abbrev pub openings : Request → List Step
openings (create regions) = OpenInput ∷ CreateImage ∷ []
openings request = OpenImage (lock_of request) ∷ opens_file (file_use request)
  where
    opens_file : FileUse → List Step
    opens_file Unused = []
    opens_file Output = MakeOutput ∷ []
    opens_file _ = OpenInput ∷ []

-- A change is stored. A listing, the output of a command without a file, is printed after the lock
-- is released.
abbrev pub endings : Request → List Step
endings request = if only_reads request then printing (file_use request) else Store ∷ []
  where
    printing : FileUse → List Step
    printing Unused = Unlock ∷ WriteOutput ∷ []
    printing _ = WriteOutput ∷ []

abbrev pub steps_of : Request → List Step
steps_of request = openings request ++ Run ∷ endings request
