-- Unshadowed components.
use Rattle.std.proofs.Common.{◌≡◌, ℕ, zero, suc, ◌+◌, ◌==◌, Bool, true, false, cond, List, [], ◌∷◌, ◌++◌, length, Ok, Some, None, Option, Contains, refl, sym, subst, arith}
use Rattle.std.specs.List.{cons_option, slice_get}
use Rattle.std.specs.Prelude.{is_some}
use Rattle.check_findings.specs.declared.region.finding.Content.{Content}
use Rattle.check_findings.specs.RegionFindings.{component_content}
use Rattle.std.specs.Str.{bytes_eq}
use Rattle.std.proofs.lemmas.Bool.{false_from_ne_true}
use Rattle.std.proofs.lemmas.Slice.Eq.{bytes_eq-Decides}
use Rattle.std.proofs.lemmas.List.Elements.{Contains-append_right}
use Rattle.flash_format.specs.Head.{head_of, is_free}
use Rattle.flash_format.specs.Cut.{cut}
use Rattle.flash_format.specs.Components.{Component, component_at, components, components_from}
use Rattle.cbfs_walk.specs.Search.{component_in, first_named}
use Rattle.std.specs.Option.{option_map_or}
use Rattle.cbfs_walk.specs.Shapes.{shape_fault}
use Rattle.cbfs_walk.specs.CellReadings.{place_after}
use Rattle.cbfs_walk.specs.declared.walk.WalkFault.{WalkFault}
use Rattle.check_findings.specs.RegionFindings.{cells_findings, count_findings, end_findings, first_content, entry_counts, shape_findings, region_findings, walk_findings}
use Rattle.check_findings.proofs.RegionLemmas.PartNames.{all_marked, component_finding}
use Rattle.check_findings.specs.declared.region.finding.RegionFinding.{RegionFinding}
use Rattle.check_findings.specs.declared.region.finding.RegionFinding.TheVariants.{Deleted}

no_first : (b : Bool) (content : Content) (l : List Content) → is_some (slice_get (cons_option (cond b (Some content) None) l) 0) ≡ false → (b ≡ false) × (is_some (slice_get l 0) ≡ false)
no_first true content l is = absurd cc
no_first false content l is = (refl, is)

module _ (c : Component) where
  -- the component isn't reported as shadowed
  abbrev Quiet : List RegionFinding → Type 0
  Quiet findings = Contains findings (component_finding true c) → ⊥

  -- no earlier component has the name, and the component is the first of its name
  IsFirst : List RegionFinding → List Component → Type 0
  IsFirst earlier all = (is_some (first_content c.name earlier) ≡ false) × (first_named c.name all ≡ Some c)

  first_here : (earlier : List RegionFinding) (others : List Component) (more : List RegionFinding) → Quiet (component_finding (is_some (first_content c.name earlier)) c ∷ more) → IsFirst earlier (c ∷ others)
  unfolding IsFirst
  first_here earlier others more quiet =
      let new : is_some (first_content c.name earlier) ≡ false = false_from_ne_true _ (λ known. (rw known at quiet) (0, omega arith, refl)) in
      (new, rw ((bytes_eq-Decides c.name c.name).1 refl) refl)

  first_later : (earlier : List RegionFinding) (d : Component) (others : List Component) → IsFirst (component_finding false d ∷ earlier) others → IsFirst earlier (d ∷ others)
  unfolding IsFirst
  first_later earlier d others first =
      let parts = no_first (bytes_eq d.name c.name) (component_content d) _ first.0 in (parts.1, rw parts.0 first.1)

  unshadowed : (earlier last : List RegionFinding) (at : ℕ) (cells : List (List ℕ)) → Contains (components_from at cells) c → Quiet (all_marked earlier (cells_findings at cells ++ last)) → IsFirst earlier (components_from at cells)
  unfolding components_from cells_findings all_marked IsFirst
  unshadowed earlier last at [] has quiet = absurd (omega (arith, has.1))
  unshadowed earlier last at (x ∷ cells) has quiet = go (is_free (head_of x)) ((head_of x).kind == 0) has quiet (λ before. unshadowed before last (at + length x) cells)
    where
      d : Component
      d = component_at at x

      others : List Component
      others = components_from (at + length x) cells

      rest : List RegionFinding
      rest = cells_findings (at + length x) cells

      go : (free deleted : Bool) → Contains (cond free others (d ∷ others)) c → Quiet (all_marked earlier ((cond free (cond deleted (Deleted at ∷ []) []) (component_finding false d ∷ []) ++ rest) ++ last))
          → ((before : List RegionFinding) → Contains others c → Quiet (all_marked before (rest ++ last)) → IsFirst before others) → IsFirst earlier (cond free others (d ∷ others))
      go true false has quiet known = known earlier has quiet
      go true true has quiet known = known (Deleted at ∷ earlier) has (λ there. quiet (Contains-append_right (Deleted at ∷ []) (all_marked (Deleted at ∷ earlier) (rest ++ last)) _ there))
      go false deleted (zero, lt, is) quiet known =
          subst (λ (e : Component). Quiet (component_finding (is_some (first_content e.name earlier)) e ∷ all_marked (component_finding false e ∷ earlier) (rest ++ last)) → IsFirst earlier (e ∷ others)) (sym is) (first_here earlier others _) quiet
      go false deleted (suc k, lt, is) quiet known =
          let here = component_finding false d in
          first_later earlier d others (known (here ∷ earlier) (k, omega (arith, lt), is)
          (λ there. quiet (Contains-append_right (component_finding (is_some (first_content d.name earlier)) d ∷ []) (all_marked (here ∷ earlier) (rest ++ last)) _ there)))

pub unshadowed_found : (x : List ℕ) (c : Component) → shape_fault x ≡ None → Contains (components x) c → ¬ Contains (region_findings x) (component_finding true c) → component_in x c.name ≡ Ok (Some c)
unfolding all_marked region_findings walk_findings component_in IsFirst
unshadowed_found x c good listed none =
    let last = end_findings x (place_after 0 (cut x).cells) (cut x).end ++ count_findings (entry_counts (length x) (cut x).cells) in
    let all = cells_findings 0 (cut x).cells ++ last in
    let first = unshadowed c [] last 0 (cut x).cells listed
    (λ there. none (subst (λ (o : Option WalkFault). Contains (all_marked [] (option_map_or shape_findings o all)) (component_finding true c)) (sym good) there)) in
    rw (good, first.1) refl
