-- The outcomes of commands: output, answer and image.
use Rattle.std.specs.Prelude.{◌≡◌, ◌==◌, ℕ, ◌<◌, ◌≤◌, ◌⊎◌, ◌++◌, Bool, IsErrOf, List, [], Option, Result, Ok}
use Rattle.std.specs.Prelude.{Err, length, take, if◌then◌else◌}
use Rattle.std.specs.List.{flat_map}
use Rattle.std.specs.Io.KnownBytes.{Appends}
use Rattle.flash_device.specs.Device.{Device, AppendsPart}
use Rattle.flash_device.specs.Pages.{Pages, HasReadBy, OnHonest, OnHonestIn}
use Rattle.flash_device.specs.declared.sink.Sink.{Ghosts as SinkOf}
use Rattle.flash_device.specs.Regions.{Range, LiesOn, bytes_in}
use Rattle.cbfs_walk.specs.Cells.{IsCellIn}
use Rattle.cbfs_walk.specs.Walks.{StandsIn}
use Rattle.cbfs_walk.specs.declared.cell.Cell.{Cell}
use Rattle.cbfs_requests.specs.declared.refusal.Refusal.{Refusal}
use Rattle.cbfs_requests.specs.declared.refusal.Refusal.TheVariants as refusals
use Rattle.std.specs.Option.{option_map_or}
use Rattle.flash_format.specs.Components.{Component, compression_of}
use Rattle.flash_format.specs.Cut.{Cut, End, cut, damage}
use Rattle.flash_map.specs.Regions.{region_of}
use Rattle.cbfs_walk.specs.Search.{component_in}
use Rattle.cbfs_walk.specs.declared.walk.WalkFault.{WalkFault}
use Rattle.cbfs_walk.specs.declared.walk.WalkFault.TheVariants as faults
use Rattle.cbfs_walk.specs.CellReadings.{place_after}
use Rattle.cbfs_walk.specs.Shapes.{shape_fault}
use Rattle.cbfs_edit.specs.Removals.{edit_fault_of}
use Rattle.flash_map.specs.Fmap.{areas_of, found_in}
use Rattle.cbfs_requests.specs.Requests.{by_device, edit_refusal, fault_or, store_refusal}
use Rattle.cbfs_commands.specs.Rows.{area_line, map_line, rows_from}

abbrev pub CommandResult : Type 0
CommandResult = Result (Unit {0}) Refusal

pub record Printout : Type 0 where
  pub written : List ℕ
  pub answer : CommandResult

-- the text, and success
abbrev pub shows : List ℕ → Printout
shows text = record { written = text; answer = Ok tt }

-- an error without output
abbrev pub refuses : Refusal → Printout
refuses refusal = record { written = []; answer = Err refusal }

-- The contents of a writer, `old` before and `new` after a call with the result `answer`, show a
-- printout in three cases: the answer is the printout's answer, and the whole text was written; the
-- writer failed after a proper prefix of the text; or the device or the source of a content failed,
-- and for some n the first n bytes were written. `None` means unknown contents, and nothing is
-- stated about them.
abbrev pub PrintsOut : Option (List ℕ) → Option (List ℕ) → CommandResult → Printout → Type 0
PrintsOut old new answer t = ((answer ≡ t.answer) × Appends old new t.written)
    ⊎ (IsErrOf answer refusals.Output × AppendsPart old new t.written)
    ⊎ ((IsErrOf answer refusals.Device ⊎ IsErrOf answer refusals.Source)
    × ((n : ℕ) × (n ≤ length t.written) × Appends old new (take n t.written)))

-- The region r lies on the device, and the cell c within the bounds of a region of r's size. An
-- honest device has the bytes of the cell at the offset stated by the cell.
pub record IsCellOf (r : Range) (c : Cell) (device : Device) : Type 0 where
  pub region : LiesOn r device
  pub cell : IsCellIn r.size c
  pub stands : OnHonestIn device r (λ x. StandsIn x c)

-- A call with at most n reads of the device, and with writes to a sink. A device fault is a failed
-- read, and an output fault a failure of the sink. The call has no source, and no source fault. On
-- an honest device, reads return the device's content or fail, and `t image` is the output with the
-- answer.
pub record HasOutput {F W : Type 0} (sink : SinkOf W) (n : ℕ) (old new : Pages F)
    (out_old out_new : W) (answer : CommandResult) (t : List ℕ → Printout) : Type 0 where
  pub read : HasReadBy by_device n old new answer
  pub faults : sink.faults out_old ≤ sink.faults out_new
  pub output : IsErrOf answer refusals.Output → sink.faults out_old < sink.faults out_new
  pub no_source : IsErrOf answer refusals.Source → ⊥
  pub printout : OnHonest old.device (λ image.
      PrintsOut (sink.contents out_old) (sink.contents out_new) answer (t image))

-- the refusal for a fault of a walk, which equals the refusal of an edit
abbrev pub walk_refusal : WalkFault → Refusal
walk_refusal fault = edit_refusal (edit_fault_of fault)

-- ---- outcomes

-- the printout of a command with the answer, and the image after the command
pub record Outcome : Type 0 where
  pub printout : Printout
  pub image : List ℕ

-- the printout that `tell` returns for the bytes of the region named `name`, or the refusal of the
-- map or the name
abbrev pub printed_in : List ℕ → List ℕ → (List ℕ → Printout) → Printout
printed_in image name tell = fault_or (λ fault. refuses (store_refusal fault))
    (region_of image name) (λ region. tell (bytes_in region image))

-- ---- layout

unfoldable pub layout : List ℕ → Printout
layout image = option_map_or (λ m. shows (map_line m ++ flat_map area_line (areas_of image m)))
    (found_in image) (refuses refusals.NoFmap)

-- ---- print

-- the answer for cells that end at the offset `at`: the damage at the end, or else success
abbrev pub end_answer : ℕ → End → CommandResult
end_answer at (damage kind) = Err (walk_refusal (faults.Damaged at kind))
end_answer at end = Ok tt

-- A row for each cell from an offset on, if verbose also the lines on attributes and digests of the
-- components. The end of the cells is the answer, and has no row.
abbrev pub print_cut : Bool → ℕ → Cut → Printout
print_cut verbose at c = record {
  written = rows_from verbose at c.cells;
  answer = end_answer (place_after at c.cells) c.end;
}

-- the whole region, or an error of its shape without output
unfoldable pub print_region : List ℕ → Bool → Printout
print_region x verbose =
    option_map_or (λ fault. refuses (walk_refusal fault)) (shape_fault x)
    (print_cut verbose 0 (cut x))

-- ---- extract

-- the content, unless compressed
abbrev pub printed_component : Component → Printout
printed_component c =
    if compression_of c.attributes == 0 then shows c.content else refuses refusals.Compressed

abbrev pub extract_region : List ℕ → List ℕ → Printout
extract_region x name = fault_or (λ fault. refuses (walk_refusal fault)) (component_in x name)
    (λ c. option_map_or printed_component c (refuses refusals.NotFound))
