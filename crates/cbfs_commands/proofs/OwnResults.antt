-- No outcome's own answer is a fault of the device, the output or the source.
use Rattle.std.proofs.Common.{arith}
use Rattle.std.proofs.lemmas.Grind.{common_steps}
use Rattle.std.proofs.Common.{◌≡◌, inl, inr, ℕ, Bool, cond, List, [], ◌∷◌, Option, Some, Result, Ok, Err, sym, subst}
use Rattle.std.specs.Option.{ok_or, option_map_or}
use Rattle.std.specs.Prelude.{⊤}
use Rattle.std.specs.Result.{result_map_both}
use Rattle.flash_format.specs.declared.flashmap.Area.{Area}
use Rattle.flash_format.specs.Components.{Component, components}
use Rattle.flash_format.specs.Cut.{End, complete, tail, damage, cut}
use Rattle.flash_device.specs.Regions.{Range, bytes_in}
use Rattle.flash_map.specs.Regions.{region_by_area, region_of}
use Rattle.cbfs_walk.specs.Search.{component_in, first_named, not_found}
use Rattle.cbfs_walk.specs.CellReadings.{place_after}
use Rattle.cbfs_walk.specs.Shapes.{has_bad_size, shape_fault}
use Rattle.cbfs_walk.specs.declared.walk.WalkFault.{WalkFault}
use Rattle.cbfs_walk.specs.declared.walk.WalkFault.TheVariants as walk
use Rattle.cbfs_edit.specs.Additions.{NewComponent, addition_in}
use Rattle.cbfs_edit.specs.Removals.{group_from, removal_in, unless_damaged, unless_unsound}
use Rattle.cbfs_edit.specs.Places.{placing_in}
use Rattle.cbfs_edit.specs.declared.fault.EditFault.{EditFault}
use Rattle.cbfs_edit.specs.declared.fault.EditFault.TheVariants as edit
use Rattle.cbfs_edit.specs.declared.place.Spot.{Spot}
use Rattle.cbfs_requests.specs.declared.refusal.Refusal.{Refusal}
use Rattle.cbfs_requests.specs.declared.refusal.Refusal.TheVariants as refusals
use Rattle.flash_format.specs.declared.flashmap.FmapHead.{FmapHead}
use Rattle.cbfs_commands.specs.Creations.{head_for, map_place, plan_for, region_places}
use Rattle.cbfs_commands.specs.Effects.{RegionEdit, changes, edited_image, effect}
use Rattle.cbfs_requests.specs.Requests.{IsFault, Request, edit_refusal, fault_or, store_refusal}
use Rattle.cbfs_commands.specs.Outcomes.{layout}
use Rattle.cbfs_commands.specs.Outcomes.{print_region, printed_component, printed_in}
use Rattle.cbfs_commands.specs.Outcomes.{Printout, refuses, walk_refusal}

-- an error that is no such fault
abbrev BlamesNone : Refusal → Type 0
BlamesNone refusals.Device = ⊥
BlamesNone refusals.Output = ⊥
BlamesNone refusals.Source = ⊥
BlamesNone _ = ⊤

abbrev itself : Refusal → Refusal
itself refusal = refusal

-- the same for an answer, with its error converted
abbrev Blameless : {T E : Type 0} → (E → Refusal) → Result T E → Type 0
Blameless tell (Ok value) = ⊤
Blameless tell (Err fault) = BlamesNone (tell fault)

pub no_fault : {T : Type 0} (answer : Result T Refusal) → Blameless itself answer → ¬ IsFault answer
no_fault {T} answer own (inl blamed) = subst (λ (a : Result T Refusal). Blameless itself a) blamed own
no_fault {T} answer own (inr (inl blamed)) = subst (λ (a : Result T Refusal). Blameless itself a) blamed own
no_fault {T} answer own (inr (inr blamed)) = subst (λ (a : Result T Refusal). Blameless itself a) blamed own

-- one of two answers
when : {T E : Type 0} (tell : E → Refusal) (b : Bool) (x y : Result T E) → Blameless tell x → Blameless tell y → Blameless tell (cond b x y)
when tell b x y left right = grind (arith, common_steps)

given : {T E : Type 0} (tell : E → Refusal) (o : Option T) (fault : E) → BlamesNone (tell fault) → Blameless tell (ok_or o fault)
given tell o fault own = grind (arith, common_steps)

-- a result of a value
next-blameless : {T U E : Type 0} (tell : E → Refusal) (r : Result T E) (next : T → Result U Refusal) → Blameless tell r → ((value : T) → Blameless itself (next value)) → Blameless itself (fault_or (λ fault. Err (tell fault)) r next)
next-blameless tell r next own each = grind (arith, common_steps)

printout-blameless : {T E : Type 0} (tell : E → Refusal) (r : Result T E) (next : T → Printout) → Blameless tell r → ((value : T) → Blameless itself (next value).answer) → Blameless itself (fault_or (λ fault. refuses (tell fault)) r next).answer
printout-blameless tell r next own each = grind (arith, common_steps)

-- ---- regions, their shape and their cells

inside-blameless : (n : ℕ) (area : Option Area) → Blameless store_refusal (region_by_area n area)
inside-blameless n area = grind (arith, common_steps)

region_of-blameless : (image name : List ℕ) → Blameless store_refusal (region_of image name)
unfolding region_of
region_of-blameless image name = grind (arith, common_steps)

-- either error of a region's shape, or the later answer
unless-misshapen : {A : Type 0} (P : A → Type 0) (refuse : WalkFault → A) (x : List ℕ) (otherwise : A) → P (refuse walk.RegionShape) → P (refuse walk.NotCbfs) → P otherwise → P (option_map_or refuse (shape_fault x) otherwise)
unless-misshapen P refuse x otherwise misshapen empty other = grind (arith, common_steps)

found-blameless : (c : Option Component) (at : ℕ) (end : End) → Blameless walk_refusal (option_map_or (λ d. Ok (Some d)) c (not_found at end))
found-blameless c at end = grind (arith, common_steps)

component_in-blameless : (x name : List ℕ) → Blameless walk_refusal (component_in x name)
unfolding component_in
component_in-blameless x name = unless-misshapen (λ (r : Result (Option Component) WalkFault). Blameless walk_refusal r) _ x _ tt tt (found-blameless (first_named name (components x)) (place_after 0 (cut x).cells) (cut x).end)

-- ---- edits

unsound-blameless : {T : Type 0} (x : List ℕ) (otherwise : Result T EditFault) → Blameless edit_refusal otherwise → Blameless edit_refusal (unless_unsound x otherwise)
unsound-blameless {T} x otherwise other = unless-misshapen (λ (r : Result T EditFault). Blameless edit_refusal r) _ x _ tt tt (go (cut x).end)
  where
    go : (end : End) → Blameless edit_refusal (unless_damaged (place_after 0 (cut x).cells) end otherwise)
    go complete = other
    go tail = other
    go (damage kind) = tt

removal_in-blameless : (x name : List ℕ) → Blameless edit_refusal (removal_in x name)
unfolding removal_in
removal_in-blameless x name = unsound-blameless x _ (given edit_refusal (group_from name 0 0 (cut x).cells) edit.NotFound tt)

addition_in-blameless : (x : List ℕ) (new : NewComponent) (spot : Spot) → Blameless edit_refusal (addition_in x new spot)
unfolding addition_in placing_in
addition_in-blameless x new spot = grind (arith, common_steps)

-- ---- plans

region_places-blameless : (n : ℕ) (areas : List (Option Area)) → Blameless itself (region_places n areas)
region_places-blameless n [] = tt
region_places-blameless n (area ∷ areas) = next-blameless store_refusal _ _ (inside-blameless n area) (λ place. when itself (has_bad_size place.size) _ _ tt (next-blameless itself _ _ (region_places-blameless n areas) (λ places. tt)))

pub faultless_places : {T : Type 0} (n : ℕ) (areas : List (Option Area)) (items : T → List Range) (result : Result T Refusal) → result_map_both items (λ refusal. refusal) result ≡ region_places n areas → ¬ IsFault result
faultless_places {T} n areas items (Ok places) is = no_fault (let r : Result T Refusal = Ok places in r) tt
faultless_places {T} n areas items (Err refusal) is = no_fault (let r : Result T Refusal = Err refusal in r) (subst (λ (r : Result (List Range) Refusal). Blameless itself r) (sym is) (region_places-blameless n areas))

no_area : {T E : Type 0} (r : Result T E) → Blameless (λ (fault : E). refusals.FmapArea) r
no_area (Ok value) = tt
no_area (Err fault) = tt

head_for-blameless : (n : ℕ) (source : List ℕ) → Blameless itself (head_for n source)
head_for-blameless n source = grind (arith, common_steps, given, next-blameless, when)

map_place-blameless : (n : ℕ) (head : FmapHead) (areas : List Area) → Blameless itself (map_place n head areas)
map_place-blameless n head areas = grind (arith, common_steps, next-blameless, no_area, when)

plan_for-blameless : (n : ℕ) (names : List (List ℕ)) (source : List ℕ) → Blameless itself (plan_for n names source)
unfolding plan_for
plan_for-blameless n names source = grind (arith, common_steps, head_for-blameless, map_place-blameless, next-blameless, region_places-blameless, when)

-- ---- commands

told_found-blameless : (c : Option Component) → Blameless itself (option_map_or printed_component c (refuses refusals.NotFound)).answer
told_found-blameless c = grind (arith, common_steps)

-- by the region's output or change
by_region : (image name : List ℕ) (tell : List ℕ → Printout) → ((x : List ℕ) → Blameless itself (tell x).answer) → Blameless itself (printed_in image name tell).answer
by_region image name tell each = printout-blameless store_refusal _ _ (region_of-blameless image name) (λ region. each (bytes_in region image))

edited : (image name source : List ℕ) (edit : RegionEdit) → ((region : Range) (x : List ℕ) → Blameless itself (edit.make region x source)) → Blameless itself (changes image (edited_image name edit image source)).printout.answer
edited image name source edit each = grind (arith, common_steps, next-blameless, region_of-blameless)

pub own_answer : (r : Request) (image source : List ℕ) → Blameless itself ((effect r).outcome image source).printout.answer
unfolding print_region layout
own_answer r image source = grind (arith, common_steps, addition_in-blameless, by_region, component_in-blameless, edited, found-blameless, next-blameless, plan_for-blameless, printout-blameless, removal_in-blameless, told_found-blameless, unless-misshapen, when)
