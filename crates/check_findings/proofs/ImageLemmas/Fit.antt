-- Regions without bad findings.
use Rattle.std.specs.Prelude.{◌-◌, slice_range}
use Rattle.std.proofs.Common.{◌==◌}
use Rattle.check_findings.specs.Lists.{only_if}
use Rattle.std.proofs.Common.{arith, ◌≡◌, ℕ, ◌+◌, Bool, true, false, cond, List, [], ◌∷◌, Some, None, Contains, All, length, refl, sym, ap, ◌∙◌}
use Rattle.std.specs.List.{list_any}
use Rattle.std.proofs.lemmas.Bool.{false≢true, ltb-false, or_parts}
use Rattle.std.proofs.lemmas.List.Elements.{All-nil, All-cons, All-contains}
use Rattle.std.proofs.lemmas.List.Folds.{list_any_at}
use Rattle.flash_format.specs.Head.{head_of, is_free}
use Rattle.flash_format.specs.Cut.{cut}
use Rattle.flash_format.specs.Components.{Component, component_at, components, components_from}
use Rattle.flash_format.specs.declared.digest.Digest.{Digest}
use Rattle.cbfs_walk.specs.Hashes.{hash_state}
use Rattle.cbfs_walk.specs.declared.hashes.HashState.TheVariants.{Invalid}
use Rattle.std.specs.Prelude.{◌≢◌}
use Rattle.cbfs_walk.specs.CellReadings.{place_after}
use Rattle.std.specs.Option.{option_map_or}
use Rattle.flash_format.specs.Entry.{front}
use Rattle.std.specs.Prelude.{is_some}
use Rattle.std.specs.Prelude.{not, ◌||◌}
use Rattle.cbfs_walk.specs.Shapes.{has_bad_size}
use Rattle.cbfs_walk.specs.declared.walk.WalkFault.TheVariants as faults
use Rattle.std.proofs.lemmas.Grind.{common_steps}
use Rattle.check_findings.specs.RegionFindings.{cell_findings, cells_findings, first_content, marked, region_findings, shape_findings, tail_findings, walk_findings}
use Rattle.check_findings.proofs.RegionLemmas.PartNames.{all_marked, component_finding}
use Rattle.check_findings.specs.declared.region.finding.RegionFinding.{RegionFinding}
use Rattle.check_findings.specs.declared.region.finding.RegionFinding.TheVariants as findings
use Rattle.check_findings.proofs.MapLemmas.Sound.{none_of}
use Rattle.check_findings.proofs.RegionLemmas.Shadows.{unshadowed_found}
use Rattle.check_findings.proofs.RegionLemmas.Tails.{none_filled}
use Rattle.check_findings.specs.Laws.{IsWhole}
use Rattle.check_findings.specs.Attributes.{AreSoundAttributes, cell_fault, cell_walked}
use Rattle.check_findings.specs.declared.region.finding.AttributeFault.{AttributeFault}
use Rattle.check_findings.proofs.RegionLemmas.SoundAttributes.{sound_attributes}
use Rattle.check_findings.specs.Verdicts.{changes_later, is_bad_hash, is_bad_region, has_long_metadata, rules_of}
use Rattle.check_findings.specs.RegionFindings.{component_content}
use Rattle.check_findings.specs.declared.image.verdict.HashRules.{HashRules}
use Rattle.cbfs_anchor.specs.Metadata.{longest_metadata, metadata_len}
use Rattle.cbfs_anchor.specs.declared.anchor.Anchor.{Anchor}
use Rattle.std.proofs.Common.{Option, ◌≤◌}
use Rattle.std.specs.Prelude.{nat_lt}

-- a bad finding makes the list bad
bad_among : (rules : HashRules) (all : List RegionFinding) (finding : RegionFinding) → Contains all finding → is_bad_region rules finding ≡ true → list_any (is_bad_region rules) all ≡ true
bad_among rules all finding has bad = list_any_at (is_bad_region rules) all has.0 finding has.1 (ap (is_bad_region rules) has.2 ∙ bad)

-- the component's digest, if any, matches, if its content doesn't change later; the firmware finds
-- it, and reads its attributes as commands do
record IsIntact (anchor : Option Anchor) (c : Component) : Type 0 where
  digest : (stored : Digest) → changes_later anchor c.name ≡ false → hash_state c.attributes c.content ≢ Invalid stored
  short : metadata_len c ≤ longest_metadata
  attributes : AreSoundAttributes (head_of c.bytes).kind (cell_walked c.bytes)

not_long : (at len : ℕ) → nat_lt 256 ((at + len) - at) ≡ false → len ≤ 256
not_long at len short = omega (arith, ltb-false 256 ((at + len) - at) short)

good_shape : (rules : HashRules) (size absent : Bool) (rest : List RegionFinding)
    → list_any (is_bad_region rules) (option_map_or shape_findings (cond size (Some faults.RegionShape) (cond absent (Some faults.NotCbfs) None)) rest) ≡ false
    → (cond size (Some faults.RegionShape) (cond absent (Some faults.NotCbfs) None) ≡ None) × (list_any (is_bad_region rules) rest ≡ false)
good_shape rules size absent rest fit = grind (arith, common_steps, fit)

none_is : (fault : Option AttributeFault) → is_some fault ≡ false → fault ≡ None
none_is None is = refl
none_is (Some fault) is = absurd cc

intact_component : (rules : HashRules) (c : Component) → list_any (is_bad_region rules) (component_finding false c ∷ []) ≡ false → IsIntact rules.anchor c
intact_component rules c fit =
    let parts = or_parts (has_long_metadata c.at (component_content c)) _ (or_parts _ false fit).0 in
    let good = or_parts (is_bad_hash rules c.name (component_content c)) (is_some (cell_fault c.bytes)) parts.1 in
    record {
      digest = λ stored fixed is. grind (arith, common_steps, is, fixed, good.0);
      short = not_long c.at (metadata_len c) parts.0;
      attributes = sound_attributes (head_of c.bytes).kind (cell_walked c.bytes) (none_is (cell_fault c.bytes) good.1);
    }

intact_cell : (rules : HashRules) (at : ℕ) (x : List ℕ) (others : List Component) (free : Bool)
    → list_any (is_bad_region rules) (cond free (only_if ((head_of x).kind == 0) (findings.Deleted at)) (component_finding false (component_at at x) ∷ [])) ≡ false → All (IsIntact rules.anchor) others
    → All (IsIntact rules.anchor) (cond free others (component_at at x ∷ others))
intact_cell rules at x others true fit rest = rest
intact_cell rules at x others false fit rest = All-cons (IsIntact rules.anchor) (component_at at x) others (intact_component rules (component_at at x) fit) rest

intact : (rules : HashRules) (at : ℕ) (cells : List (List ℕ)) → list_any (is_bad_region rules) (cells_findings at cells) ≡ false → All (IsIntact rules.anchor) (components_from at cells)
unfolding cells_findings components_from
intact rules at [] fit = All-nil (IsIntact rules.anchor)
intact rules at (x ∷ cells) fit =
    let parts = none_of (is_bad_region rules) (cell_findings at x) _ fit in
    intact_cell rules at x (components_from (at + length x) cells) (is_free (head_of x)) parts.0 (intact rules (at + length x) cells parts.1)

mark_off : (is shadowed rest : Bool) → ((is || shadowed) || rest) ≡ false → (is || rest) ≡ false
mark_off true shadowed rest fit = absurd (false≢true (sym fit))
mark_off false true rest fit = absurd (false≢true (sym fit))
mark_off false false rest fit = fit

-- a mark makes no finding good
bad_marked : (rules : HashRules) (earlier : List RegionFinding) (f : RegionFinding) → is_bad_region rules (marked earlier f) ≡ false → is_bad_region rules f ≡ false
bad_marked rules earlier (findings.Component at name is content) fit =
    mark_off is (is_some (first_content name earlier)) (has_long_metadata at content || (is_bad_hash rules name content || is_some content.fault)) fit
bad_marked rules earlier other fit = fit

none_bad : (rules : HashRules) (earlier all : List RegionFinding) → list_any (is_bad_region rules) (all_marked earlier all) ≡ false → list_any (is_bad_region rules) all ≡ false
unfolding all_marked
none_bad rules earlier [] fit = fit
none_bad rules earlier (f ∷ all) fit =
    let parts = or_parts (is_bad_region rules (marked earlier f)) _ fit in
    rw (bad_marked rules earlier f parts.0) (none_bad rules (f ∷ earlier) all parts.1)

-- a region without bad findings is whole
pub fit_region : (needs : Bool) (anchor : Option Anchor) (x : List ℕ) → list_any (is_bad_region (rules_of needs anchor)) (region_findings x) ≡ false → IsWhole anchor x
unfolding all_marked region_findings walk_findings tail_findings
fit_region needs anchor x fit =
    let rules = rules_of needs anchor in
    let all = good_shape rules (has_bad_size (length x)) (not (is_some (front x))) _ (none_bad rules [] (walk_findings x) fit) in
    let parts = none_of (is_bad_region rules) (cells_findings 0 (cut x).cells) _ all.1 in
    let each = λ (c : Component) (listed : Contains (components x) c). All-contains (IsIntact anchor) (components x) c (intact rules 0 (cut x).cells parts.0) listed in
    record {
      shaped = all.0;
      undamaged = λ kind is. false≢true (sym (rw is at parts.1));
      intact = λ c stored listed. (each c listed).digest stored;
      short = λ c listed. (each c listed).short;
      attributes = λ c listed. (each c listed).attributes;
      blank = λ is. let at = place_after 0 (cut x).cells in let fit = rw is at parts.1 in none_filled at (slice_range x at (length x - 4)) (grind (arith, common_steps, fit));
      found = λ c listed. unshadowed_found x c all.0 listed (λ there. false≢true (sym fit ∙ bad_among rules _ _ there refl));
    }
