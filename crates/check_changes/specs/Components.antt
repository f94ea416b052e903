-- Changes of components. This project defines their choice and order.
use Rattle.std.specs.Prelude.{ℕ, Bool, not, false, ◌&&◌, List, [], ◌∷◌, ◌++◌, length, slice_range, map, is_none, Option, Some, ◌==◌, if◌then◌else◌}
use Rattle.std.specs.Bool.{then_some}
use Rattle.std.specs.List.{find, flat_map, sum_by}
use Rattle.std.specs.Option.{option_map_or, option_to_list}
use Rattle.std.specs.Str.{bytes_eq}
use Rattle.flash_format.specs.Head.{head_of, is_free}
use Rattle.flash_format.specs.Components.{Component, components}
use Rattle.cbfs_walk.specs.Cells.{attributes_start, content_start}
use Rattle.cbfs_walk.specs.Hashes.{content_at}
use Rattle.cbfs_walk.specs.Shapes.{shape_fault}
use Rattle.cbfs_walk.specs.declared.cell.Cell.{Cell}
use Rattle.check_findings.specs.Lists.{only_if}
use Rattle.check_changes.specs.Areas.{if_changed}
use Rattle.check_changes.specs.declared.components.change.ComponentDifference.{ComponentDifference}
use Rattle.check_changes.specs.declared.components.change.ComponentDifference.TheVariants.{Added, Removed, «Type», Length, Content, Attributes, MovedFrom}
use Rattle.check_changes.specs.declared.components.change.ComponentChange.{ComponentChange}
use Rattle.check_changes.specs.declared.components.listing.Listed.{Listed}
use Rattle.std.specs.Prelude.{◌≡◌, option_copied}
use Rattle.std.specs.Borrow.{Bor}
use Rattle.std.specs.HashMap.{HashMap, get_by}
use Rattle.cbfs_walk.specs.Cells.{IsCellIn}

-- the components of a region by name and cell, up to a damage; none without a valid shape
unfoldable pub listed_in : List ℕ → List Listed
listed_in x = option_map_or (λ fault. []) (shape_fault x) (map (λ (c : Component). record
    { name = c.name; cell = record { at = c.at; head = head_of c.bytes; span = length c.bytes } })
    (components x))

abbrev pub first_of : List ℕ → List Listed → Option Listed
first_of name all = find (λ listed. bytes_eq name listed.name) all

-- the component is the first of its name
abbrev pub is_first_of : List Listed → Listed → Bool
is_first_of all listed =
    option_map_or (λ first. first.cell.at == listed.cell.at) (first_of listed.name all) false

-- the bytes between name and content
abbrev pub attributes_at : List ℕ → Cell → List ℕ
attributes_at x c = slice_range x (attributes_start c) (content_start c)

-- the first difference between components of regions x and y
abbrev pub difference : List ℕ → List ℕ → Cell → Cell → Option ComponentDifference
difference x y old new = if not (old.head.kind == new.head.kind) then Some «Type»
    else (if not (old.head.len == new.head.len) then Some Length
    else (if not (bytes_eq (content_at x old) (content_at y new)) then Some Content
    else then_some (not (bytes_eq (attributes_at x old) (attributes_at y new))) Attributes))

abbrev pub component_change : Listed → ComponentDifference → ComponentChange
component_change listed what =
    record { at = listed.cell.at; name = listed.name; what = what }

-- the differences between an old component and a new one
abbrev pub differences : List ℕ → List ℕ → Cell → Cell → List ComponentDifference
differences x y old new =
    option_to_list (difference x y old new) ++ if_changed old.at new.at MovedFrom

-- the changes of a new component from its first old namesake, if no namesake precedes it
abbrev pub new_changes : List ℕ → List ℕ → List Listed → List Listed → Listed → List ComponentChange
new_changes x y olds news new = if is_first_of news new then map (component_change new)
    (option_map_or (λ old. differences x y old.cell new.cell) (first_of new.name olds) (Added ∷ []))
    else []

-- the removal of an old component without a new namesake
abbrev pub removal_of : List Listed → List Listed → Listed → List ComponentChange
removal_of olds news old =
    only_if (is_none (first_of old.name news) && is_first_of olds old)
    (component_change old Removed)

-- changes in the order of the new region, then removals in the order of the old region
unfoldable pub changes_between : List ℕ → List ℕ → List Listed → List Listed → List ComponentChange
changes_between x y olds news =
    flat_map (new_changes x y olds news) news ++ flat_map (removal_of olds news) olds

-- the changes from region x to region y
abbrev pub component_changes : List ℕ → List ℕ → List ComponentChange
component_changes x y = changes_between x y (listed_in x) (listed_in y)

-- ---- components from a walk

-- a component's cell in a region of this size
abbrev pub IsListedIn : ℕ → Listed → Type 0
IsListedIn size l = IsCellIn size l.cell × (is_free l.cell.head ≡ false)

-- the bytes of all cells
abbrev pub spans : List Listed → ℕ
spans all = sum_by (λ l. l.cell.span) all

-- the map has exactly the first component of each name
abbrev pub HasFirstComponents : {S : Type 0} → HashMap (Bor (List ℕ)) (Bor Listed) S
    → List Listed → Type 0
HasFirstComponents first all = (name : List ℕ)
    → option_copied (get_by (λ k. bytes_eq name k.now) first) ≡ first_of name all
