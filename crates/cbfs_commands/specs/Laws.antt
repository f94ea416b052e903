-- Laws of outcomes.
use Rattle.std.specs.Prelude.{◌≡◌, ℕ, ◌+◌, ◌^◌, ◌<◌, ◌≤◌, false, All, List, [], ◌∷◌, ◌++◌, length, Ok}
use Rattle.std.specs.Prelude.{Option, Some, None, map, if◌then◌else◌}
use Rattle.std.specs.List.{AllPairs, flat_map}
use Rattle.flash_format.specs.Head.{head_of, is_free}
use Rattle.flash_format.specs.Components.{cell_attributes, cell_name, compression_of}
use Rattle.flash_format.specs.Flashmap.{text_of}
use Rattle.flash_format.specs.declared.flashmap.Area.{Area}
use Rattle.flash_map.specs.declared.search.FoundMap.{FoundMap}
use Rattle.flash_device.specs.Device.{overwritten}
use Rattle.flash_device.specs.Regions.{Range, bytes_in}
use Rattle.flash_map.specs.Regions.{region_of}
use Rattle.flash_device.specs.Laws.{LieApart}
use Rattle.cbfs_edit.specs.Additions.{NewComponent, added}
use Rattle.cbfs_edit.specs.Changes.{IsOneFreeCell}
use Rattle.cbfs_edit.specs.declared.place.Place.{Place}
use Rattle.cbfs_commands.specs.declared.create.plan.Plan.{Plan}
use Rattle.cbfs_commands.specs.Creations.{IsPlace, created_image}
use Rattle.cbfs_commands.specs.Effects.{effect}
use Rattle.cbfs_requests.specs.Requests.{IsFault, Request, Task, on_region, write}
use Rattle.cbfs_commands.specs.Outcomes.{Outcome, extract_region, printed_in, shows}
use Rattle.cbfs_commands.specs.Rows.{area_line, map_line, shown_cell}

-- the two outcomes have the same output and answer, and images with the same bytes of the region
pub record HaveSameEffectIn (region : Range) (a b : Outcome) : Type 0 where
  pub printout : a.printout ≡ b.printout
  pub bytes : bytes_in region a.image ≡ bytes_in region b.image

-- An outcome depends on bytes alone: on the bytes of image and source, and for a command on a
-- region on the bytes of the region and of the flash map. No failed call is part of an outcome.
pub record OutcomesDependOnBytes : Type 0 where
  -- no outcome's own answer is a fault of the device, the output or the source
  pub faultless : (r : Request) (image source : List ℕ)
      → ¬ IsFault ((effect r).outcome image source).printout.answer
  -- if `read` prints these bytes, then `write` of them leaves the image unchanged, without output
  pub written_back : (image name bytes : List ℕ) → printed_in image name shows ≡ shows bytes
      → (effect (on_region name write)).outcome image bytes
      ≡ record { printout = shows []; image = image }
  -- if the maps of two images have the same region of a name, with the same bytes, then a command
  -- on this name has the same effect in both
  pub of_region : (name : List ℕ) (task : Task) (region : Range) (image other source : List ℕ)
      → region_of image name ≡ Ok region → region_of other name ≡ Ok region
      → bytes_in region other ≡ bytes_in region image
      → let outcome = (effect (on_region name task)).outcome in
      HaveSameEffectIn region (outcome other source) (outcome image source)

-- `create` can carry out the plan in an image of n bytes, with this source: the ranges of the flash
-- map and of the regions lie in the image, and don't overlap. Nothing is said of other areas of the
-- flash map.
pub record IsSoundPlan (n : ℕ) (source : List ℕ) (plan : Plan) : Type 0 where
  -- the flash map is the first bytes of the source
  pub in_source : plan.map_len ≤ length source
  -- the area of the flash map has room for it, and lies in the image
  pub room : plan.map_len ≤ plan.map.size
  pub map : plan.map.start + plan.map.size ≤ n
  -- each region lies in the image, and has a valid size
  pub regions : All (IsPlace n) plan.regions.items
  -- the area of the flash map and the regions don't overlap
  pub apart : AllPairs LieApart (plan.map ∷ plan.regions.items)
  -- each region of the created image is a single empty entry
  pub free : n < 2 ^ 32 → All (λ (place : Range). IsOneFreeCell (bytes_in place
      (created_image n plan source))) plan.regions.items

-- `extract` returns the content of an addition to the bytes x of a region.
pub record AdditionsAreExtracted (x : List ℕ) (new : NewComponent) (place : Place) : Type 0 where
  pub region : extract_region (added x new place) new.name ≡ shows new.content
  -- the same for an image, if its map keeps the region
  pub image : (image name : List ℕ) (region : Range) → bytes_in region image ≡ x
      → let now = overwritten image region.start (added x new place) in
      region_of image name ≡ Ok region → region_of now name ≡ Ok region
      → printed_in now name (λ y. extract_region y new.name) ≡ shows new.content

-- ---- printed lines

-- `line` prints a value of type A as text. `values` are the name of the value, if any, and the
-- numbers.
module _ {A N : Type 0} (line : A → List ℕ) (values : A → N × List ℕ) where
  -- The numbers are below 2^64. That is no limit in practice: numbers of an image have 32 bits, and
  -- offsets are below the size of the image.
  abbrev pub HasNumbersOf64Bits : A → Type 0
  HasNumbersOf64Bits a = All (λ n. n < 2 ^ 64) (values a).1

  -- Printed text can be read back: equal texts have equal values.
  pub record CanBeReadBack : Type 0 where
    -- a line ends in itself: its values, and the text after it, follow from the whole text
    pub one : (a b : A) (more rest : List ℕ) → HasNumbersOf64Bits a → HasNumbersOf64Bits b
        → line a ++ more ≡ line b ++ rest → (values a ≡ values b) × (more ≡ rest)
    -- the values of each line follow from the text of all lines
    pub all : (each others : List A) → All HasNumbersOf64Bits each
        → All HasNumbersOf64Bits others
        → flat_map line each ≡ flat_map line others → map values each ≡ map values others

-- the row that `print` without `-v` has for a cell, given by offset and bytes
abbrev pub row_of_cell : ℕ × List ℕ → List ℕ
row_of_cell cell = let verbose = false in shown_cell verbose cell.0 cell.1

-- free space: offset, type, length
abbrev pub free_values : ℕ → List ℕ → Option (List ℕ) × List ℕ
free_values at x = let h = head_of x in (None, at ∷ h.kind ∷ h.len ∷ [])

-- a component: name; offset, type, content length, compression
abbrev pub component_values : ℕ → List ℕ → Option (List ℕ) × List ℕ
component_values at x = let h = head_of x in
    (Some (cell_name x), at ∷ h.kind ∷ h.len ∷ compression_of (cell_attributes x) ∷ [])

-- the values in the row of a cell, given by offset and bytes
abbrev pub row_values : ℕ × List ℕ → Option (List ℕ) × List ℕ
row_values cell = if is_free (head_of cell.1) then free_values cell.0 cell.1
    else component_values cell.0 cell.1

-- an area: name up to the NUL; offset, size, flags
abbrev pub area_values : Area → List ℕ × List ℕ
area_values a = (text_of a.name, a.offset ∷ a.size ∷ a.flags ∷ [])

-- a flash map: name up to the NUL; offset, size of the image, number of areas
abbrev pub map_values : FoundMap → List ℕ × List ℕ
map_values map = (text_of map.head.name, map.at ∷ map.head.size ∷ map.head.nareas ∷ [])

-- the lines of `print` without `-v` and of `layout`
pub record LinesAreReadBack : Type 0 where
  pub cells : CanBeReadBack row_of_cell row_values
  pub areas : CanBeReadBack area_line area_values
  pub maps : CanBeReadBack map_line map_values
