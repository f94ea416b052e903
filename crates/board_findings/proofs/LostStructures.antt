-- Structures that an update loses.
use Rattle.std.proofs.Common.{◌≡◌, ◌≢◌, ◌∙◌, ◌≤◌, Bool, true, false, ◌&&◌, List, [], ◌∷◌, zero, suc, ap, arith, lit<, refl, subst}
use Rattle.std.specs.Prelude.{not, Contains, filter, is_some, nat_lt, ◌↔◌}
use Rattle.std.specs.List.{list_any}
use Rattle.std.proofs.lemmas.Bool.{ltb-false, le-ltb}
use Rattle.std.proofs.lemmas.List.Elements.{All-contains, filter_passes}
use Rattle.std.proofs.lemmas.List.Folds.{Any-from_list_any, list_any-from_Any}
use Rattle.board_structures.specs.Descriptors.{base_of, limit_of, range_of}
use Rattle.board_structures.specs.declared.descriptor.Descriptor.{Descriptor}
use Rattle.board_structures.specs.declared.descriptor.Descriptor.TheVariants as descriptors
use Rattle.board_structures.specs.declared.descriptor.DescriptorRegion.{DescriptorRegion}
use Rattle.board_structures.specs.declared.descriptor.DescriptorRegion.TheVariants as regions
use Rattle.board_structures.specs.declared.descriptor.RegionTable.{RegionTable}
use Rattle.board_structures.specs.declared.firmware_table.FirmwareTable.{FirmwareTable}
use Rattle.board_structures.specs.declared.firmware_table.FirmwareTable.TheVariants as firmware
use Rattle.board_structures.specs.declared.gbb.Gbb.{Gbb}
use Rattle.board_structures.specs.declared.gbb.Gbb.TheVariants as blocks
use Rattle.board_structures.specs.declared.partition_table.PartitionTable.{PartitionTable}
use Rattle.board_structures.specs.declared.partition_table.PartitionTable.TheVariants as tables
use Rattle.board_structures.specs.declared.signed_slot.SignedSlot.{SignedSlot}
use Rattle.board_structures.specs.declared.signed_slot.SignedSlot.TheVariants as signed
use Rattle.board_findings.specs.StructureLaws.{Has, HasTableOf, IsAskedIn, IsLost}
use Rattle.board_findings.specs.Structures.{all_structures, has, is_asked_in, is_described, is_lost, is_signed, is_slot, lost_structures, shows}
use Rattle.board_findings.specs.declared.finding.BoardFinding.{BoardFinding}
use Rattle.board_findings.specs.declared.finding.BoardFinding.TheVariants as found
use Rattle.board_findings.specs.declared.finding.Slot.{Slot}
use Rattle.board_findings.specs.declared.finding.Slot.TheVariants as slots
use Rattle.board_findings.specs.declared.finding.SlotFinding.{SlotFinding}
use Rattle.board_findings.specs.declared.structure.Structure.{Structure}
use Rattle.board_findings.specs.declared.structure.Structure.TheVariants as structures

by_bool : (b : Bool) (P : Type 0) → (b ≡ true → P) → (b ≡ false → P) → P
by_bool true P holds fails = holds refl
by_bool false P holds fails = fails refl

both : (a b : Bool) → (a && b) ≡ true → (a ≡ true) × (b ≡ true)
both true b is = (refl, is)
both false b is = absurd cc

-- ---- what a finding shows

used : (region : DescriptorRegion) (table : RegionTable) → is_some (range_of region table) ≡ true → base_of region table ≤ limit_of region table
unfolding range_of
used region table is =
    by_bool (nat_lt (limit_of region table) (base_of region table)) (base_of region table ≤ limit_of region table) (λ below. let impossible : false ≡ true = rw below at is in absurd cc) (λ holds. ltb-false (limit_of region table) (base_of region table) holds)

is_used : (region : DescriptorRegion) (table : RegionTable) → base_of region table ≤ limit_of region table → is_some (range_of region table) ≡ true
unfolding range_of
is_used region table holds = rw (le-ltb (limit_of region table) (base_of region table) holds) refl

same_slot : (a b : Slot) → is_slot a b ≡ true → b ≡ a
same_slot slots.A slots.A is = refl
same_slot slots.B slots.B is = refl
same_slot slots.A slots.B is = absurd cc
same_slot slots.B slots.A is = absurd cc

is_itself : (a : Slot) → is_slot a a ≡ true
is_itself slots.A = refl
is_itself slots.B = refl

not_blank : (state : SignedSlot) → is_signed state ≡ true → state ≢ signed.Blank
not_blank signed.Blank is = absurd cc
not_blank (signed.Broken fault) is = λ e. cc
not_blank signed.BodyNotChecked is = λ e. cc
not_blank (signed.Sound len) is = λ e. cc

is_not_blank : (state : SignedSlot) → state ≢ signed.Blank → is_signed state ≡ true
is_not_blank signed.Blank is = absurd (is refl)
is_not_blank (signed.Broken fault) is = refl
is_not_blank signed.BodyNotChecked is = refl
is_not_blank (signed.Sound len) is = refl

of_slot : (slot : Slot) (s : SlotFinding) (findings : List BoardFinding) → Contains findings (found.Slot s) → (is_slot slot s.slot && is_signed s.state) ≡ true → Has (structures.Slot slot) findings
of_slot slot s findings there is =
    let parts = both (is_slot slot s.slot) (is_signed s.state) is in
    (s.state, subst (λ (k : Slot). Contains findings (found.Slot (record { slot = k; state = s.state }))) (same_slot slot s.slot parts.0) there, not_blank s.state parts.1)

-- by a finding of the list
from_finding : (structure : Structure) (f : BoardFinding) (findings : List BoardFinding) → Contains findings f → shows structure f ≡ true → Has structure findings
from_finding structures.FlashDescriptor (found.Descriptor descriptors.Blank) findings there is = absurd cc
from_finding structures.FlashDescriptor (found.Descriptor state) findings there is = (state, there, λ e. cc)
from_finding (structures.Region region) (found.Descriptor (descriptors.Described table)) findings there is = (table, there, used region table is)
from_finding structures.PartitionTable (found.PartitionTable tables.Blank) findings there is = absurd cc
from_finding structures.PartitionTable (found.PartitionTable state) findings there is = (state, there, λ e. cc)
from_finding structures.Bootblock (found.ResetVector state) findings there is = (state, there)
from_finding structures.FirmwareTable (found.FirmwareTable firmware.Absent) findings there is = absurd cc
from_finding structures.FirmwareTable (found.FirmwareTable state) findings there is = (state, there, λ e. cc)
from_finding structures.MasterHeader (found.MasterHeader header) findings there is = (header, there)
from_finding structures.Gbb (found.Gbb blocks.Blank) findings there is = absurd cc
from_finding structures.Gbb (found.Gbb state) findings there is = (state, there, λ e. cc)
from_finding (structures.Slot slot) (found.Slot s) findings there is = of_slot slot s findings there is
from_finding _ _ findings there is = absurd cc

has_is : (structure : Structure) (findings : List BoardFinding) → has structure findings ≡ true → Has structure findings
has_is structure findings is =
    let any = Any-from_list_any (shows structure) findings is in
    from_finding structure any.1 findings (any.0, any.2, any.3) any.4

-- a finding of the list that passes a test
passes : (test : BoardFinding → Bool) (findings : List BoardFinding) (f : BoardFinding) → Contains findings f → test f ≡ true → list_any test findings ≡ true
passes test findings f there is = list_any-from_Any test findings (there.0, f, there.1, there.2, is)

shown_descriptor : (state : Descriptor) → state ≢ descriptors.Blank → shows structures.FlashDescriptor (found.Descriptor state) ≡ true
shown_descriptor descriptors.Blank is = absurd (is refl)
shown_descriptor descriptors.CutOff is = refl
shown_descriptor descriptors.NoSignature is = refl
shown_descriptor descriptors.TableOutside is = refl
shown_descriptor (descriptors.Described table) is = refl

shown_table : (state : PartitionTable) → state ≢ tables.Blank → shows structures.PartitionTable (found.PartitionTable state) ≡ true
shown_table tables.Blank is = absurd (is refl)
shown_table tables.Missing is = refl
shown_table (tables.Present at) is = refl

shown_firmware : (state : FirmwareTable) → state ≢ firmware.Absent → shows structures.FirmwareTable (found.FirmwareTable state) ≡ true
shown_firmware firmware.Absent is = absurd (is refl)
shown_firmware (firmware.Broken fault) is = refl
shown_firmware (firmware.Sound count) is = refl

shown_gbb : (state : Gbb) → state ≢ blocks.Blank → shows structures.Gbb (found.Gbb state) ≡ true
shown_gbb blocks.Blank is = absurd (is refl)
shown_gbb (blocks.Broken fault) is = refl
shown_gbb (blocks.Sound flags) is = refl

pub is_there : (structure : Structure) (findings : List BoardFinding) → Has structure findings → has structure findings ≡ true
is_there structures.FlashDescriptor findings (state, there, is) = passes (shows structures.FlashDescriptor) findings (found.Descriptor state) there (shown_descriptor state is)
is_there (structures.Region region) findings (table, there, is) = passes (shows (structures.Region region)) findings (found.Descriptor (descriptors.Described table)) there (is_used region table is)
is_there structures.PartitionTable findings (state, there, is) = passes (shows structures.PartitionTable) findings (found.PartitionTable state) there (shown_table state is)
is_there structures.Bootblock findings (state, there) = passes (shows structures.Bootblock) findings (found.ResetVector state) there refl
is_there structures.FirmwareTable findings (state, there, is) = passes (shows structures.FirmwareTable) findings (found.FirmwareTable state) there (shown_firmware state is)
is_there structures.MasterHeader findings (header, there) = passes (shows structures.MasterHeader) findings (found.MasterHeader header) there refl
is_there structures.Gbb findings (state, there, is) = passes (shows structures.Gbb) findings (found.Gbb state) there (shown_gbb state is)
is_there (structures.Slot slot) findings (state, there, is) =
    passes (shows (structures.Slot slot)) findings (found.Slot (record { slot = slot; state = state })) there (rw (is_itself slot, is_not_blank state is) refl)

-- ---- regions that are asked for

described : (f : BoardFinding) (findings : List BoardFinding) → Contains findings f → is_described f ≡ true → (table : RegionTable) × HasTableOf findings table
described (found.Descriptor (descriptors.Described table)) findings there is = (table, there)
described _ findings there is = absurd cc

asked_is : (structure : Structure) (findings : List BoardFinding) → is_asked_in structure findings ≡ true → IsAskedIn structure findings
asked_is (structures.Region region) findings is =
    let any = Any-from_list_any is_described findings is in
    described any.1 findings (any.0, any.2, any.3) any.4
asked_is _ findings is = tt

is_asked : (structure : Structure) (findings : List BoardFinding) → IsAskedIn structure findings → is_asked_in structure findings ≡ true
is_asked (structures.Region region) findings (table, there) = passes is_described findings (found.Descriptor (descriptors.Described table)) there refl
is_asked _ findings asked = refl

-- ---- the list of lost structures

not_true : (b : Bool) → not b ≡ true → b ≡ true → ⊥
not_true true is holds = cc
not_true false is holds = cc

is_false : (b : Bool) → (b ≡ true → ⊥) → not b ≡ true
is_false true fails = absurd (fails refl)
is_false false fails = refl

lost_is : (old new : List BoardFinding) (structure : Structure) → is_lost old new structure ≡ true → IsLost old new structure
lost_is old new structure is =
    let first = both (has structure old && not (has structure new)) (is_asked_in structure new) is in
    let second = both (has structure old) (not (has structure new)) first.0 in
    record {
      was_there = has_is structure old second.0;
      is_gone = λ there. not_true (has structure new) second.1 (is_there structure new there);
      is_asked = asked_is structure new first.1;
    }

is_lost_if : (old new : List BoardFinding) (structure : Structure) → IsLost old new structure → is_lost old new structure ≡ true
is_lost_if old new structure lost =
    rw (is_there structure old lost.was_there, is_false (has structure new) (λ is. lost.is_gone (has_is structure new is)), is_asked structure new lost.is_asked) refl

-- an item that passes the test
kept : {X : Type 0} (p : X → Bool) (xs : List X) (x : X) → p x ≡ true → Contains xs x → Contains (filter p xs) x
kept p [] x is (k, lt, at) = absurd (omega arith)
kept p (y ∷ ys) x is (zero, lt, at) = rw (ap p at ∙ is) (0, omega arith, at)
kept p (y ∷ ys) x is (suc k, lt, at) =
    let rest = kept p ys x is (k, omega arith, at) in
    by_bool (p y) (Contains (filter p (y ∷ ys)) x) (λ holds. rw holds (suc rest.0, omega (arith, rest.1), rest.2)) (λ fails. rw fails rest)

listed : (structure : Structure) → Contains all_structures structure
listed structures.FlashDescriptor = (0, lit< tt, refl)
listed (structures.Region regions.Descriptor) = (1, lit< tt, refl)
listed (structures.Region regions.Bios) = (2, lit< tt, refl)
listed (structures.Region regions.Me) = (3, lit< tt, refl)
listed (structures.Region regions.Gbe) = (4, lit< tt, refl)
listed (structures.Region regions.PlatformData) = (5, lit< tt, refl)
listed (structures.Region regions.Ec) = (6, lit< tt, refl)
listed structures.PartitionTable = (7, lit< tt, refl)
listed structures.Bootblock = (8, lit< tt, refl)
listed structures.FirmwareTable = (9, lit< tt, refl)
listed structures.MasterHeader = (10, lit< tt, refl)
listed structures.Gbb = (11, lit< tt, refl)
listed (structures.Slot slots.A) = (12, lit< tt, refl)
listed (structures.Slot slots.B) = (13, lit< tt, refl)

pub lost_exactly : (old new : List BoardFinding) (structure : Structure) → Contains (lost_structures old new) structure ↔ IsLost old new structure
unfolding lost_structures
lost_exactly old new structure = (
  λ there. lost_is old new structure (All-contains (λ s. is_lost old new s ≡ true) (filter (is_lost old new) all_structures) structure (filter_passes (is_lost old new) all_structures) there),
  λ lost. kept (is_lost old new) all_structures structure (is_lost_if old new structure lost) (listed structure),
)
