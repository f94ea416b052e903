-- The effect and errors of an addition.
use Rattle.std.specs.List.{list_any}
use Rattle.std.specs.Option.{option_map, option_map_or}
use Rattle.std.specs.Prelude.{ℕ, ◌+◌, ◌-◌, ◌==◌, ◌||◌, List, [], ◌++◌, length}
use Rattle.std.specs.Prelude.{nat_lt, Option, Some, None, Result, Err, if◌then◌else◌}
use Rattle.flash_format.specs.Head.{round64}
use Rattle.flash_format.specs.Made.{empty_entry, hash_len, made, meta_length}
use Rattle.flash_format.specs.Entry.{is_nul}
use Rattle.flash_format.specs.Components.{Component}
use Rattle.flash_format.specs.Placings.{made_component}
use Rattle.flash_format.specs.declared.digest.Algorithm.{Algorithm}
use Rattle.flash_format.specs.declared.digest.Algorithm.TheVariants as algorithms
use Rattle.flash_format.specs.declared.digest.Digest.{Digest}
use Rattle.flash_device.specs.Device.{overwritten}
use Rattle.cbfs_walk.specs.Hashes.{hashed_by}
use Rattle.cbfs_edit.specs.Removals.{kept_at}
use Rattle.cbfs_edit.specs.Places.{is_bad_align, placing_in}
use Rattle.cbfs_edit.specs.declared.addition.HashChoice.{HashChoice}
use Rattle.cbfs_edit.specs.declared.addition.HashChoice.TheVariants.{Plain, Sha256, Sha512}
use Rattle.cbfs_edit.specs.declared.fault.EditFault.{EditFault}
use Rattle.cbfs_edit.specs.declared.fault.EditFault.TheVariants.{BadName, BadType, BadAlign}
use Rattle.cbfs_edit.specs.declared.place.Spot.{Spot}
use Rattle.cbfs_edit.specs.declared.place.Wanted.{Wanted}
use Rattle.cbfs_edit.specs.declared.place.Place.{Place}

pub record NewComponent : Type 0 where
  pub name : List ℕ
  pub kind : ℕ
  pub digest : Option Digest
  pub content : List ℕ

abbrev pub algorithm_of : HashChoice → Option Algorithm
algorithm_of Plain = None
algorithm_of Sha256 = Some algorithms.Sha256
algorithm_of Sha512 = Some algorithms.Sha512

abbrev pub choice_of : Algorithm → HashChoice
choice_of algorithms.Sha256 = Sha256
choice_of algorithms.Sha512 = Sha512

abbrev pub digest_of : HashChoice → List ℕ → Option Digest
digest_of hash content = option_map (λ algorithm. hashed_by algorithm content) (algorithm_of hash)

-- a new component with the given digest
abbrev pub described : List ℕ → ℕ → Option Digest → List ℕ → NewComponent
described name kind digest content =
    record { name = name; kind = kind; digest = digest; content = content }

-- a new component with the selected digest of the content
abbrev pub new_component : List ℕ → ℕ → HashChoice → List ℕ → NewComponent
new_component name kind hash content = described name kind (digest_of hash content) content

-- the length without the gap before the content
abbrev pub metadata_len_of : NewComponent → ℕ
metadata_len_of new = meta_length (length new.name) (hash_len new.digest)

abbrev pub wanted_for : NewComponent → Spot → Wanted
wanted_for new spot =
    record { metadata_len = metadata_len_of new; len = length new.content; spot = spot }

-- ---- the effect

abbrev pub cell_end : NewComponent → Place → ℕ
cell_end new place = round64 (place.content + length new.content)

-- the empty entry between two offsets, if different
abbrev pub empty_between : List ℕ → ℕ → ℕ → List ℕ
empty_between x start end = if start == end then [] else empty_entry (end - start) (kept_at x end)

module _ (x : List ℕ) (new : NewComponent) (place : Place) where
  abbrev pub made_at : List ℕ
  made_at = made new.name new.kind new.digest (place.content - place.header - metadata_len_of new)
      new.content (kept_at x (cell_end new place))

  -- the component in a run, between empty entries
  abbrev pub added : List ℕ
  added = overwritten x place.run.start (empty_between x place.run.start place.header
      ++ (made_at ++ empty_between x (cell_end new place) place.run.end))

  abbrev pub added_component : Component
  added_component = made_component place.header new.name new.kind new.digest new.content made_at

-- ---- the errors

-- The first error that depends on no device: a name that is empty, longer than 127 bytes or has a
-- NUL; a type of free space.
abbrev pub argument_fault : List ℕ → ℕ → Spot → Option EditFault
argument_fault name kind spot =
    if (length name == 0) || nat_lt 127 (length name) || list_any is_nul name then Some BadName
    else (if kind == 0 || kind == 0xffffffff then Some BadType
    else (if is_bad_align spot then Some BadAlign else None))

-- the place, or the first error
unfoldable pub addition_in : List ℕ → NewComponent → Spot → Result Place EditFault
addition_in x new spot = option_map_or (λ fault. Err fault) (argument_fault new.name new.kind spot)
    (placing_in x new.name (wanted_for new spot))
