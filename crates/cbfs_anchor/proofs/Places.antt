-- The range with the anchor.
use Rattle.std.proofs.Common.{◌≡◌, ◌⊎◌, inl, inr, ℕ, ◌+◌, List, Option, Some, None, Result, Ok, Err, true, cond, eqb, refl, sym, ap, ◌∙◌}
use Rattle.std.specs.Prelude.{IsErrOf}
use Rattle.std.specs.Option.{option_map_or}
use Rattle.std.specs.Result.{result_map_both}
use Rattle.std.proofs.lemmas.Bool.{eq-eqb}
use lib.Chars.{codes}
use Rattle.flash_format.specs.declared.head.Head.{Head}
use Rattle.flash_format.specs.Head.{head_of}
use Rattle.flash_format.specs.Components.{Component, component_at}
use Rattle.flash_device.specs.Regions.{Range}
use Rattle.flash_map.specs.Fmap.{found_in}
use Rattle.flash_map.specs.declared.search.FoundMap.{FoundMap}
use Rattle.cbfs_walk.specs.Cells.{cell_in}
use Rattle.cbfs_walk.specs.Search.{component_in}
use Rattle.cbfs_walk.specs.declared.cell.Cell.{Cell}
use Rattle.cbfs_walk.specs.declared.walk.WalkFault.{WalkFault}
use Rattle.cbfs_walk.specs.declared.walk.WalkFault.TheVariants as walk
use Rattle.cbfs_anchor.specs.declared.place.AnchorPlace.{AnchorPlace}
use Rattle.cbfs_anchor.specs.declared.fault.SealFault.{SealFault}
use Rattle.cbfs_anchor.specs.declared.fault.SealFault.TheVariants as faults
use Rattle.cbfs_anchor.specs.Faults.{and_then, walk_fault}
use Rattle.cbfs_anchor.specs.Places.{area_range, component_place, content_place, place_by, place_in, place_with}

-- the search's answer, as a component
abbrev found_at : List ℕ → Cell → Result (Option Component) WalkFault
found_at x c = Ok (Some (component_at c.at (cell_in x c)))

pub component_placed : (map coreboot anchor : Range) (x : List ℕ) (c : Cell) → head_of (cell_in x c) ≡ c.head → c.head.kind ≡ 1
    → anchor ≡ record { start = coreboot.start + c.at + c.head.offset; size = c.head.len }
    → (let a : Result (Option Cell) WalkFault = Ok (Some c) in IsErrOf a walk.Device) ⊎ (component_in x (codes "bootblock") ≡ found_at x c)
    → (let a : Result AnchorPlace SealFault = Ok (record { map = map; coreboot = coreboot; anchor = anchor; in_component = true }) in a) ≡ component_place map coreboot x
component_placed map coreboot anchor x c head kind there (inl e) = absurd cc
component_placed map coreboot anchor x c head kind there (inr found) =
    let place = λ (r : Range). (let p : AnchorPlace = record { map = map; coreboot = coreboot; anchor = r; in_component = true } in p) in
    let at = λ (h : Head). (let r : Range = record { start = coreboot.start + c.at + h.offset; size = h.len } in r) in
    let answer = λ (h : Head). cond (eqb h.kind 1) (let a : Result AnchorPlace SealFault = Ok (place (at h)) in a) (Err faults.NoAnchor) in
    let here : answer (head_of (cell_in x c)) ≡ Ok (place anchor) =
    ap answer head ∙ ap (λ b. cond b (let a : Result AnchorPlace SealFault = Ok (place (at c.head)) in a) (Err faults.NoAnchor)) (eq-eqb c.head.kind 1 kind) ∙ ap (λ (r : Range). (let a : Result AnchorPlace SealFault = Ok (place r) in a)) (sym there) in
    sym (ap (λ (r : Result (Option Component) WalkFault). and_then (result_map_both (λ found. found) walk_fault r) (λ found. option_map_or (content_place map coreboot) found (Err faults.NoAnchor))) found ∙ here)

-- ---- the steps of a place

pub place_without_map : (image : List ℕ) → None ≡ found_in image → Err faults.NoFmap ≡ place_in image
unfolding place_in
place_without_map image none = rw (← none) refl

place_with_map : (image : List ℕ) (map : FoundMap) → Some map ≡ found_in image → place_with image map ≡ place_in image
unfolding place_in
place_with_map image map found = ap (λ o. option_map_or (place_with image) o (Err faults.NoFmap)) found

pub with_refused : (image : List ℕ) (map : FoundMap) (fault : SealFault)
    → (let a : Result Range SealFault = Err fault in IsErrOf a faults.Device ⊎ (a ≡ area_range image map (codes "COREBOOT")))
    → (let a : Result AnchorPlace SealFault = Err fault in IsErrOf a faults.Device ⊎ (a ≡ place_with image map))
with_refused image map fault (inl device) = let is : fault ≡ faults.Device = cc in inl (ap (λ (f : SealFault). let a : Result AnchorPlace SealFault = Err f in a) is)
with_refused image map fault (inr none) = inr (ap (λ (r : Result Range SealFault). and_then r (place_by image map)) none)

pub with_found : (image : List ℕ) (map : FoundMap) (coreboot : Range) (result : Result AnchorPlace SealFault)
    → (let a : Result Range SealFault = Ok coreboot in IsErrOf a faults.Device ⊎ (a ≡ area_range image map (codes "COREBOOT")))
    → IsErrOf result faults.Device ⊎ (result ≡ place_by image map coreboot) → IsErrOf result faults.Device ⊎ (result ≡ place_with image map)
with_found image map coreboot result there (inl device) = inl device
with_found image map coreboot result (inl device) (inr is) = absurd cc
with_found image map coreboot result (inr there) (inr is) = inr (is ∙ ap (λ (r : Result Range SealFault). and_then r (place_by image map)) there)

pub place_refused : (image : List ℕ) (map : FoundMap) (fault : SealFault) → Some map ≡ found_in image
    → (let a : Result Range SealFault = Err fault in IsErrOf a faults.Device ⊎ (a ≡ area_range image map (codes "COREBOOT")))
    → (let a : Result AnchorPlace SealFault = Err fault in IsErrOf a faults.Device ⊎ (a ≡ place_in image))
place_refused image map fault found (inl device) = let is : fault ≡ faults.Device = cc in inl (ap (λ (f : SealFault). let a : Result AnchorPlace SealFault = Err f in a) is)
place_refused image map fault found (inr none) = inr (ap (λ (r : Result Range SealFault). and_then r (place_by image map)) none ∙ place_with_map image map found)

pub place_found : (image : List ℕ) (map : FoundMap) (coreboot : Range) (result : Result AnchorPlace SealFault) → Some map ≡ found_in image
    → (let a : Result Range SealFault = Ok coreboot in IsErrOf a faults.Device ⊎ (a ≡ area_range image map (codes "COREBOOT")))
    → IsErrOf result faults.Device ⊎ (result ≡ place_by image map coreboot) → IsErrOf result faults.Device ⊎ (result ≡ place_in image)
place_found image map coreboot result found there (inl device) = inl device
place_found image map coreboot result found (inl device) (inr is) = absurd cc
place_found image map coreboot result found (inr there) (inr is) =
    inr (is ∙ ap (λ (r : Result Range SealFault). and_then r (place_by image map)) there ∙ place_with_map image map found)
