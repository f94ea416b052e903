-- The effect of edits and of formatting on a region, also after a fault, and lists of edits.
use Rattle.std.specs.Prelude.{◌≡◌, ℕ, ◌+◌, List, length, Result, IsTrue, OnOk, ◌⊎◌, ◌-◌, max, min}
use Rattle.std.specs.Prelude.{Ok, Err, ◌==◌, true, [], ◌∷◌, Some, ◌/◌, ⊤}
use Rattle.flash_device.specs.Device.{overwritten, SameOutside, Device, refusals, Calls, Reads}
use Rattle.flash_device.specs.Pages.{Pages, HasChanged, OnHonestIn, OnHonest}
use Rattle.flash_device.specs.Regions.{Range, bytes_in}
use Rattle.flash_device.specs.declared.paged.CopyInFault.{CopyInFault}
use Rattle.flash_device.specs.declared.paged.CopyInFault.TheVariants as copies
use Rattle.flash_format.specs.Made.{header_length, empty_header, empty_entry}
use Rattle.flash_format.specs.Cut.{cut, complete}
use Rattle.flash_format.specs.Components.{components}
use Rattle.cbfs_edit.specs.Removals.{removed, removal_in, last_four, space_end}
use Rattle.cbfs_edit.specs.Additions.{NewComponent, addition_in, added, new_component}
use Rattle.cbfs_edit.specs.declared.fault.EditFault.{EditFault}
use Rattle.cbfs_edit.specs.declared.fault.EditFault.TheVariants as faults
use Rattle.cbfs_edit.specs.declared.group.CellRange.{CellRange}
use Rattle.cbfs_edit.specs.declared.addition.Placed.{Placed}
use Rattle.cbfs_edit.specs.declared.place.Spot.{Spot}
use Rattle.cbfs_edit.specs.declared.place.Place.{Place}
use Rattle.cbfs_edit.specs.declared.place.Wanted.{Wanted}
use Rattle.flash_format.specs.Head.{head_of, is_free}
use Rattle.cbfs_edit.specs.declared.edit.Edit.{Edit}
use Rattle.cbfs_edit.specs.declared.edit.Edit.TheVariants.{Add, Remove}
use Rattle.cbfs_edit.specs.declared.edit.Reply.{Reply}
use Rattle.cbfs_edit.specs.declared.edit.Reply.TheVariants as replies

-- the number of failed device calls that an error reports
abbrev pub by_device : EditFault → ℕ
by_device faults.Device = 1
by_device fault = 0

-- the number of failed source calls that an error reports
abbrev pub by_source : EditFault → ℕ
by_source faults.Source = 1
by_source fault = 0

-- an error of the edit itself: no call failed
abbrev pub IsOwn : EditFault → Type 0
IsOwn faults.Device = ⊥
IsOwn faults.Source = ⊥
IsOwn fault = ⊤

-- the error of a failed copy of the content
abbrev pub copy_edit_fault : CopyInFault → EditFault
copy_edit_fault copies.Device = faults.Device
copy_edit_fault copies.Source = faults.Source

-- A write into a region by at most n calls. On an honest device, success applies `done`, and `Left`
-- holds in any case.
pub record HasWrittenIn {F T E : Type 0} (region : Range) (n : ℕ) (done : List ℕ → List ℕ)
    (Left : List ℕ → List ℕ → Type 0) (old new : Pages F) (result : Result T E) : Type 0 where
  pub after : HasChanged region n (refusals result) old new
  pub written : OnHonestIn old.device region (λ x.
      OnOk result (bytes_in region new.device.content ≡ done x))
  pub left : OnHonestIn old.device region (λ x. Left x (bytes_in region new.device.content))

-- between the commits of an edit: an empty entry's header over the group, then arbitrary bytes up
-- to `to`
pub record IsEmptied (group : CellRange) (to : ℕ) (x y : List ℕ) : Type 0 where
  pub same_length : length y ≡ length x
  pub same : SameOutside (group.start + header_length) (to - (group.start + header_length))
      (overwritten x group.start (empty_header (group.end - group.start) (group.end == length x))) y

-- ---- the end of an addition

-- the region before the last commit: the run is emptied, and then the content is written
abbrev pub before_last_commit : List ℕ → Place → List ℕ → List ℕ
before_last_commit x place content = overwritten (removed x place.run) place.content content

-- the end of the bytes that an addition can write before its last commit
abbrev pub written_to : Wanted → ℕ → Place → ℕ
written_to wanted size place = max (place.content + wanted.len) (space_end size place.run.end)

-- A success shows the component at its place. After a fault the component is shown, or its run is
-- emptied, with arbitrary bytes up to `to`.
abbrev pub Shows : {T E : Type 0} → NewComponent → Place → ℕ → Result T E → List ℕ → List ℕ → Type 0
Shows new place to result x y = OnOk result (y ≡ added x new place)
    × ((y ≡ added x new place) ⊎ IsEmptied place.run to x y)

-- ---- after a stop

-- with offsets, bytes and the same end
pub record SameCells (x y : List ℕ) : Type 0 where
  pub components : components x ≡ components y
  pub end : (cut x).end ≡ (cut y).end

-- The components before or after the edit, for bytes x before it and y after a stop; `done` are the
-- bytes after the complete edit. No byte outside the group changes, and none from `kept` on.
pub record IsStopped (group : CellRange) (kept : ℕ) (x done y : List ℕ) : Type 0 where
  pub components : (components y ≡ components x) ⊎ (components y ≡ components done)
  pub end : (cut y).end ≡ (cut x).end
  pub outside : SameOutside group.start (min group.end kept - group.start) x y

-- After a device fault of a removal. The last four bytes of the region remain.
abbrev pub LeavesWhole : List ℕ → List ℕ → List ℕ → Type 0
LeavesWhole x name y = (y ≡ x) ⊎ ((group : CellRange) × (removal_in x name ≡ Ok group)
    × IsStopped group (length x - 4) x (removed x group) y)

-- The effect of a removal on a region of an honest device's image, by the result. A removal has no
-- source.
abbrev pub IsRemoval : Range → List ℕ → Result CellRange EditFault → List ℕ → List ℕ → Type 0
IsRemoval region name (Ok group) old now = (removal_in (bytes_in region old) name ≡ Ok group)
    × (now ≡ overwritten old region.start (removed (bytes_in region old) group))
IsRemoval region name (Err faults.Device) old now =
    LeavesWhole (bytes_in region old) name (bytes_in region now)
IsRemoval region name (Err faults.Source) old now = ⊥
IsRemoval region name (Err fault) old now =
    (removal_in (bytes_in region old) name ≡ Err fault) × (now ≡ old)

-- after a device fault of an addition; of the last four bytes, only bytes after the content remain
abbrev pub AddLeavesWhole : List ℕ → NewComponent → Spot → List ℕ → Type 0
AddLeavesWhole x new spot y = (y ≡ x) ⊎ ((place : Place) × (addition_in x new spot ≡ Ok place)
    × IsStopped place.run (max (place.content + length new.content) (length x - 4)) x
    (added x new place) y)

-- After a source fault of an addition: the components of before. Of the new content, only the
-- length matters here.
abbrev pub AddLeavesBefore : List ℕ → NewComponent → Spot → List ℕ → Type 0
AddLeavesBefore x new spot y = AddLeavesWhole x new spot y × (components y ≡ components x)

-- The effect of an addition on a region of an honest device's image, by the result. `with_content`
-- gives the component by its content, which is the source's.
abbrev pub IsAddition : Range → (List ℕ → NewComponent) → Spot → Device → Result Placed EditFault
    → List ℕ → List ℕ → Type 0
IsAddition region with_content spot source (Ok placed) old now =
    let x = bytes_in region old in let new = with_content source.content in
    (place : Place) × (addition_in x new spot ≡ Ok place)
    × (placed ≡ record { header = place.header; content = place.content })
    × (IsTrue source.honest → now ≡ overwritten old region.start (added x new place))
IsAddition region with_content spot source (Err faults.Device) old now = IsTrue source.honest
    → AddLeavesWhole (bytes_in region old) (with_content source.content) spot (bytes_in region now)
IsAddition region with_content spot source (Err faults.Source) old now =
    AddLeavesBefore (bytes_in region old) (with_content source.content) spot (bytes_in region now)
IsAddition region with_content spot source (Err fault) old now =
    (addition_in (bytes_in region old) (with_content source.content) spot ≡ Err fault)
    × (now ≡ old)

-- a single empty entry, with the same last four bytes
abbrev pub formatted : List ℕ → List ℕ
formatted x = empty_entry (length x) (Some (last_four x))

-- the cell covers the whole region
pub record IsOneFreeCell (x : List ℕ) : Type 0 where
  pub cells : cut x ≡ record { cells = x ∷ []; end = complete }
  pub free : is_free (head_of x) ≡ true

-- the number of failed calls: at most the last call
abbrev pub faults_of : (EditFault → ℕ) → Reply → ℕ
faults_of told (replies.Refused fault) = told fault
faults_of told reply = 0

-- the maximum number of device calls
abbrev pub edit_calls : {S : Type 0} → ℕ → Edit S → ℕ
edit_calls size (Add name kind hash spot source) = size / 16 + size / 2048 + 7
edit_calls size (Remove name) = size / 16 + size / 4096 + 3

module _ {S : Type 0} (facts : S → Device) where
  -- the effect of an edit on a region of an honest device's image, by the reply
  abbrev pub IsReply : Range → Edit S → Reply → List ℕ → List ℕ → Type 0
  IsReply region (Add name kind hash spot source) (replies.Placed placed) =
      IsAddition region (new_component name.now kind hash) spot (facts source) (Ok placed)
  IsReply region (Add name kind hash spot source) (replies.Refused fault) =
      IsAddition region (new_component name.now kind hash) spot (facts source) (Err fault)
  IsReply region (Remove name) (replies.Freed group) = IsRemoval region name.now (Ok group)
  IsReply region (Remove name) (replies.Refused fault) = IsRemoval region name.now (Err fault)
  IsReply region edit reply = λ old now. ⊥

  -- An edit keeps its arguments, and an honest source its content. A removal has no source.
  abbrev pub Stays : ℕ → Edit S → Edit S → Type 0
  Stays refused (Add name kind hash spot source) new =
      (now : S) × (new ≡ Add name kind hash spot now)
      × Reads (length (facts source).content / 4096 + 1) refused (facts source) (facts now)
  Stays refused (Remove name) new = (new ≡ Remove name) × (refused ≡ 0)

  -- an edit with its reply
  pub record Step (region : Range) (old new : Edit S) (before : Device) (reply : Reply)
      (after : Device) : Type 0 where
    pub stays : Stays (faults_of by_source reply) old new
    pub calls : Calls (edit_calls region.size old) (faults_of by_device reply) before after
    pub effect : OnHonest before (λ image. IsReply region old reply image after.content)

  -- consecutive edits
  abbrev pub Run : Range → List (Edit S) → List (Edit S) → List Reply → Device → Device → Type 0
  Run region [] [] [] before after = after ≡ before
  Run region (old ∷ olds) (new ∷ news) (reply ∷ others) before after = (mid : Device)
      × Step region old new before reply mid × Run region olds news others mid after
  Run region olds news others before after = ⊥
