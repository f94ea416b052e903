-- The meaning of commands: outcome, allowed changes, used devices, and effect of an interruption.
use Rattle.std.specs.Prelude.{ℕ, Bool, List, [], ◌≡◌, ◌≢◌, ◌+◌, ◌/◌, ◌<◌, ◌⊎◌, true, false, length}
use Rattle.std.specs.Prelude.{Option, Some, None, MatchOption, Result, Ok, Err}
use Rattle.std.specs.Prelude.{IsErrOf, IsTrue, ◌==◌, if◌then◌else◌}
use Rattle.std.specs.Result.{ForOk, result_map_both, result_ok, result_unwrap_or}
use Rattle.flash_format.specs.Flashmap.{area_len}
use Rattle.flash_device.specs.Device.{FirstWritten, PartWritten, SameOutside, overwritten}
use Rattle.flash_device.specs.Device.{Device, Calls, call_limit, fault_count}
use Rattle.flash_device.specs.Pages.{OnHonest}
use Rattle.flash_device.specs.Regions.{Range, bytes_in}
use Rattle.flash_map.specs.Regions.{region_of}
use Rattle.cbfs_edit.specs.Additions.{NewComponent, added, addition_in, new_component}
use Rattle.cbfs_edit.specs.Removals.{removal_in, removed}
use Rattle.cbfs_edit.specs.Changes.{AddLeavesBefore, AddLeavesWhole, LeavesWhole}
use Rattle.cbfs_edit.specs.declared.place.Spot.{Spot}
use Rattle.cbfs_requests.specs.declared.command.Command.{Command}
use Rattle.cbfs_requests.specs.declared.refusal.Refusal.{Refusal}
use Rattle.cbfs_requests.specs.declared.refusal.Refusal.TheVariants as refusals
use Rattle.cbfs_requests.specs.Requests.{IsFault, Request, add, by_device, by_source, create}
use Rattle.cbfs_requests.specs.Requests.{edit_refusal, extract, fault_or, layout, on_region, print}
use Rattle.cbfs_requests.specs.Requests.{read, remove, request_of, store_refusal, write}
use Rattle.cbfs_commands.specs.Creations.{created_image, plan_for}
use Rattle.cbfs_commands.specs.Outcomes as outcomes
use Rattle.cbfs_commands.specs.Outcomes.{Outcome, print_region, extract_region, printed_in}
use Rattle.cbfs_commands.specs.Outcomes.{CommandResult, Printout, shows}

-- The end of a command: the image and the source's content before the command, the answer, and the
-- image afterwards.
pub record Ending : Type 0 where
  pub image : List ℕ
  pub source : List ℕ
  pub answer : CommandResult
  pub now : List ℕ

pub record Effect : Type 1 where
  -- the output, answer and image by the image and the source's content
  pub outcome : List ℕ → List ℕ → Outcome
  -- the region of the image that may change, if any
  pub target : List ℕ → Option Range
  -- the maximum number of source calls, 0 if the command reads no source
  pub source_calls : Device → ℕ
  -- whether the command writes output
  pub prints : Bool
  -- what an interruption leaves
  pub Stopped : Ending → Type 0

-- a report on the image changes nothing
abbrev pub report_effect : (List ℕ → Printout) → Effect
report_effect tell = record {
  outcome = λ image source. record { printout = tell image; image = image };
  target = λ image. None;
  source_calls = λ source. 0;
  prints = true;
  Stopped = λ e. e.now ≡ e.image;
}

-- the new image, or an error without a change
abbrev pub changes : List ℕ → Result (List ℕ) Refusal → Outcome
changes old made = let told : CommandResult = fault_or Err made (λ now. Ok tt) in
    record { printout = record { written = []; answer = told }; image = result_unwrap_or made old }

-- ---- changes of a named region

pub record RegionEdit : Type 1 where
  -- whether the command reads the source, once
  pub reads : Bool
  -- the new bytes by the region, its bytes and the source
  pub make : Range → List ℕ → List ℕ → Result (List ℕ) Refusal
  -- what an interruption leaves of the region
  pub Stopped : Ending → Range → Type 0

-- the image with new bytes in the region, or an error of the region or of the edit
abbrev pub edited_image : List ℕ → RegionEdit → List ℕ → List ℕ → Result (List ℕ) Refusal
edited_image name edit image source =
    fault_or (λ fault. Err (store_refusal fault)) (region_of image name)
    (λ region. fault_or Err (edit.make region (bytes_in region image) source)
    (λ bytes. Ok (overwritten image region.start bytes)))

abbrev pub region_effect : List ℕ → RegionEdit → Effect
region_effect name edit = record {
  outcome = λ image source. changes image (edited_image name edit image source);
  target = λ image. result_ok (region_of image name);
  source_calls = λ source. if edit.reads then length source.content / 4096 + 1 else 0;
  prints = false;
  Stopped = λ e. ForOk (region_of e.image name) (edit.Stopped e);
}

-- A source of the region's size replaces the region's bytes; another source changes nothing. After
-- a source fault, the region has the source's first bytes, followed by the old bytes. After a
-- device fault, an arbitrary piece lies between the new and the old bytes.
abbrev pub writing : RegionEdit
writing = record {
  reads = true;
  make = λ region x source.
      if length source == region.size then Ok source else Err refusals.SourceSize;
  Stopped = λ e region. (length e.source ≢ region.size → e.now ≡ e.image)
      × (IsErrOf e.answer refusals.Source → FirstWritten region.start e.source e.image e.now)
      × (IsErrOf e.answer refusals.Device → PartWritten region.start e.source e.image e.now);
}

-- A component at the least allowed place in the first free space with room. `with_content` returns
-- the component with the source's content. A source fault leaves the earlier components, and a
-- device fault leaves the earlier components, with or without the complete addition.
abbrev pub adding : (List ℕ → NewComponent) → Spot → RegionEdit
adding with_content spot = record {
  reads = true;
  make = λ region x source. let new = with_content source in
      result_map_both (added x new) edit_refusal (addition_in x new spot);
  Stopped = λ e region. let new = with_content e.source in
      let before = bytes_in region e.image in let now = bytes_in region e.now in
      (IsErrOf e.answer refusals.Device → AddLeavesWhole before new spot now)
      × (IsErrOf e.answer refusals.Source → AddLeavesBefore before new spot now);
}

-- an empty entry in place of a component and its adjacent free space
abbrev pub removing : List ℕ → RegionEdit
removing name = record {
  reads = false;
  make = λ region x source. result_map_both (removed x) edit_refusal (removal_in x name);
  Stopped = λ e region. IsErrOf e.answer refusals.Device
      → LeavesWhole (bytes_in region e.image) name (bytes_in region e.now);
}

-- ---- a new image

-- an interruption only preserves the size
abbrev pub creation_effect : List (List ℕ) → Effect
creation_effect names = record {
  outcome = λ image source. changes image (fault_or Err (plan_for (length image) names source)
      (λ plan. Ok (created_image (length image) plan source)));
  target = λ image. Some (record { start = 0; size = length image });
  source_calls = λ source. let size = length source.content in size / area_len + size / 4096 + 3;
  prints = false;
  Stopped = λ e. length e.now ≡ length e.image;
}

-- ---- the commands

abbrev pub effect : Request → Effect
effect layout = report_effect outcomes.layout
effect (on_region region (print verbose)) =
    report_effect (λ image. printed_in image region (λ x. print_region x verbose))
effect (on_region region (extract name)) =
    report_effect (λ image. printed_in image region (λ x. extract_region x name))
effect (on_region region read) = report_effect (λ image. printed_in image region shows)
effect (on_region region write) = region_effect region writing
effect (on_region region (add name kind hash spot)) =
    region_effect region (adding (new_component name kind hash) spot)
effect (on_region region (remove name)) = region_effect region (removing name)
effect (create names) = creation_effect names

abbrev pub effect_of : Command → Effect
effect_of command = effect (request_of command)

-- ---- the meaning

-- P of the contents of an honest device and an honest source, which may be dishonest if not read
abbrev pub OnAllHonest : Effect → Device → Device → (List ℕ → List ℕ → Type 0) → Type 0
OnAllHonest d device source P = IsTrue device.honest
    → (0 < d.source_calls source → IsTrue source.honest) → P device.content source.content

-- A fault of the device or the source is a failed call. The fields from `spares` on require an
-- honest device, the last two also an honest source if the command reads it.
pub record HasEffect (d : Effect) (old new source source_now : Device)
    (answer : CommandResult) : Type 0 where
  pub calls : Calls (call_limit old) (fault_count by_device answer) old new
  pub source_calls : Calls (d.source_calls source) (fault_count by_source answer) source source_now
  pub no_output : d.prints ≡ false → IsErrOf answer refusals.Output → ⊥
  -- all bytes outside the region remain, or all bytes without a region
  pub spares : OnHonest old (λ image. MatchOption (d.target image) (new.content ≡ image)
      (λ region. SameOutside region.start region.size image new.content))
  -- any error but a fault of the device or the source implies no change
  pub refused : OnHonest old (λ image. (answer ≡ Ok tt) ⊎ IsErrOf answer refusals.Device
      ⊎ IsErrOf answer refusals.Source ⊎ (new.content ≡ image))
  -- the answer and the image of the outcome, or a fault
  pub left : OnAllHonest d old source (λ image content. let o = d.outcome image content in
      ((answer ≡ o.printout.answer) × (new.content ≡ o.image)) ⊎ IsFault answer)
  -- what `Stopped` says of the image and the source before, the answer, and the image now
  pub stopped : OnAllHonest d old source (λ image content. d.Stopped (record {
    image = image;
    source = content;
    answer = answer;
    now = new.content;
  }))
