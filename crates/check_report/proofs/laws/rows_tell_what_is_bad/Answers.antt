-- A row is bad if its finding is bad.
use Rattle.std.proofs.Common.{◌≡◌, ◌∙◌, ℕ, zero, ◌==◌, List, [], ◌∷◌, ◌++◌, refl, ap, eqb-true}
use Rattle.std.proofs.lemmas.Bool.{and_parts, false≢true}
use Rattle.std.specs.Prelude.{Bool, true, false, Option, Some, None, is_none, is_some, not, ◌&&◌, ◌||◌, if◌then◌else◌}
use Rattle.std.specs.Borrow.{Bor}
use Rattle.std.specs.List.{flat_map, list_any}
use Rattle.std.specs.Option.{option_map_or}
use Rattle.std.specs.Str.{is_utf8}
use Rattle.flash_format.specs.TypeNames.{name_of_type}
use Rattle.std.proofs.lemmas.List.Concat.{flat_map-cons}
use Rattle.std.proofs.lemmas.List.Folds.{list_any-append}
use Rattle.check_findings.specs.declared.region.finding.Content.{Content}
use Rattle.check_report.specs.declared.request.Asked.{Asked}
use Rattle.check_findings.specs.declared.region.finding.HashFinding.{HashFinding}
use Rattle.check_findings.specs.declared.region.finding.HashFinding.TheVariants as hashes
use Rattle.check_findings.specs.declared.region.finding.RegionFinding.{RegionFinding}
use Rattle.check_findings.specs.declared.region.finding.RegionFinding.TheVariants as of_region
use Rattle.check_findings.specs.declared.map.finding.MapFinding.{MapFinding}
use Rattle.check_findings.specs.declared.map.finding.MapFinding.TheVariants as of_map
use Rattle.check_findings.specs.declared.image.finding.ImageFinding.{ImageFinding}
use Rattle.check_findings.specs.declared.image.finding.ImageFinding.TheVariants.{Anchor as OfAnchor, Map, Region, NotChecked}
use Rattle.check_findings.specs.Verdicts.{has_hash_not_of_anchor, is_bad, is_bad_anchor, is_bad_hash, is_bad_map, is_bad_region, is_bad_hash_state, is_exempt, is_firmware, is_required, has_long_metadata, needs_hash, firmware_refuses, rules_of}
use Rattle.check_findings.specs.declared.anchor.finding.AnchorFinding.{AnchorFinding}
use Rattle.check_findings.specs.declared.anchor.finding.AnchorFinding.TheVariants as of_anchor
use Rattle.check_findings.specs.declared.anchor.finding.Bootblock.TheVariants as bootblocks
use Rattle.check_findings.specs.declared.image.verdict.HashRules.{HashRules}
use Rattle.check_report.specs.AnchorRows.{anchor_row, at_spot, in_bootblock, metadata_row, map_row as digest_map_row}
use Rattle.check_findings.specs.declared.anchor.finding.AnchorSpot.{AnchorSpot}
use Rattle.check_findings.specs.declared.anchor.finding.Bootblock.{Bootblock}
use Rattle.check_findings.specs.declared.region.finding.AttributeFault.{AttributeFault}
use Rattle.check_report.specs.AttributeRows.{attribute_rows}
use Rattle.check_findings.specs.Lists.{only_if}
use Rattle.check_report.specs.Rows.{SeenRow, at_component, in_area, row, row_of, with_number}
use Rattle.check_report.specs.FindingRows.{component_rows, has_hash_row, has_state_row, hash_row, hash_rows, map_row, plain_row, rows_of}
use Rattle.check_report.specs.declared.rows.row.Verdict.TheVariants.{Bad, Remark}
use Rattle.check_report.specs.Rows.{area_name, has_verdict}
use Rattle.check_report.proofs.HiddenRows.{bad_after}
use Rattle.check_report.specs.BoardRows.{board_rows}
use Rattle.check_report.specs.FindingRows.{finding_rows, need_rows}
use Rattle.check_report.specs.Reports.{change_rows}
use Rattle.check_report.proofs.BoardVerdicts.{bad_board}
use Rattle.check_report.proofs.StructureVerdicts.{both_fine, unharmed_by}
use Rattle.check_report.proofs.laws.rows_tell_what_is_bad.Goals as goal

-- the same for all findings
bad_rows : {X : Type 0} (rows : X → List SeenRow) (bad : X → Bool) → ((x : X) → list_any (has_verdict Bad) (rows x) ≡ bad x) → (xs : List X) → list_any (has_verdict Bad) (flat_map rows xs) ≡ list_any bad xs
bad_rows rows bad each [] = refl
bad_rows rows bad each (x ∷ xs) = rw (flat_map-cons rows x xs, list_any-append (has_verdict Bad) (rows x) (flat_map rows xs), each x, bad_rows rows bad each xs) refl

bad_map : (f : MapFinding) → list_any (has_verdict Bad) (map_row f ∷ []) ≡ is_bad_map f
bad_map (of_map.MapAreaMisses None) = refl
bad_map _ = refl

-- a place changes no verdict
bad_in : (bootblock : Bootblock) (r : SeenRow) → has_verdict Bad (in_bootblock bootblock r) ≡ has_verdict Bad r
bad_in bootblocks.Area r = refl
bad_in bootblocks.Component r = refl

bad_at : (spot : AnchorSpot) (r : SeenRow) → list_any (has_verdict Bad) (at_spot spot r ∷ []) ≡ list_any (has_verdict Bad) (r ∷ [])
bad_at spot r = ap (λ b. b || false) (bad_in spot.bootblock r)

bad_anchor : (f : AnchorFinding) → list_any (has_verdict Bad) (anchor_row f ∷ []) ≡ is_bad_anchor f
bad_anchor (of_anchor.Metadata spot algorithm true) = bad_at spot (metadata_row algorithm true)
bad_anchor (of_anchor.Metadata spot algorithm false) = bad_at spot (metadata_row algorithm false)
bad_anchor (of_anchor.FlashMap spot algorithm true) = bad_at spot (digest_map_row algorithm true)
bad_anchor (of_anchor.FlashMap spot algorithm false) = bad_at spot (digest_map_row algorithm false)
bad_anchor (of_anchor.NotChecked spot) = bad_at spot (row Bad "anchor-not-checked" "anchor isn't checked: COREBOOT is damaged")
bad_anchor (of_anchor.UnknownAlgorithm bootblock) = ap (λ b. b || false) (bad_in bootblock (row Bad "anchor-unknown-algorithm" "anchor with an unknown algorithm"))
bad_anchor (of_anchor.CutOff bootblock) = ap (λ b. b || false) (bad_in bootblock (row Bad "anchor-cut-off" "anchor is cut off"))

-- ---- digests

-- the types that only the firmware loads are not exempt
not_exempt : (kind : ℕ) → is_firmware kind ≡ true → is_exempt kind ≡ false
not_exempt kind loaded = go (kind == 1) (kind == 2) refl refl
  where
    go : (first second : Bool) → (kind == 1) ≡ first → (kind == 2) ≡ second → (first || second) ≡ false
    go true second e f = absurd (false≢true (rw (eqb-true kind 1 e) at loaded))
    go false true e f = absurd (false≢true (rw (eqb-true kind 2 f) at loaded))
    go false false e f = refl

or_true : (b : Bool) → (b || true) ≡ true
or_true true = refl
or_true false = refl

-- a component without a digest needs one if the user requires it, or the firmware refuses to load it
refused_needed : (rules : HashRules) (c : Content) → (is_required rules c || firmware_refuses rules c) ≡ true → needs_hash rules c ≡ true
refused_needed rules c bad = go rules.needs_all bad
  where
    go : (needs : Bool) → ((needs && not (is_exempt c.kind)) || firmware_refuses rules c) ≡ true → ((needs || is_some rules.anchor) && not (is_exempt c.kind)) ≡ true
    go true is = either (is_exempt c.kind) refl is
      where
        either : (exempt : Bool) → is_exempt c.kind ≡ exempt → (not exempt || firmware_refuses rules c) ≡ true → not exempt ≡ true
        either false e is = refl
        either true e is =
            let parts = and_parts (is_some rules.anchor) _ is in
            absurd (false≢true (rw (not_exempt c.kind (and_parts (is_firmware c.kind) _ parts.1).0) at e))
    go false is =
        let parts = and_parts (is_some rules.anchor) _ is in
        rw (parts.0, not_exempt c.kind (and_parts (is_firmware c.kind) _ parts.1).0) refl

-- a bad digest has a row
bad_shown : (asked : Asked) (rules : HashRules) (name : List ℕ) (c : Content) (h : HashFinding) → is_bad_hash_state rules name c h ≡ true → has_state_row asked rules c h ≡ true
bad_shown asked rules name c hashes.Missing bad = rw (refused_needed rules c bad) (or_true asked.is_verbose)
bad_shown asked rules name c (hashes.Valid algorithm) bad = refl
bad_shown asked rules name c (hashes.Invalid algorithm) bad = refl
bad_shown asked rules name c hashes.Unsupported bad = refl

shown_bad : (region : List ℕ) (at : ℕ) (name code what : List ℕ) (shown bad : Bool) → (bad ≡ true → shown ≡ true)
    → list_any (has_verdict Bad) (only_if shown (at_component region at name (row_of (if bad then Bad else Remark) code what))) ≡ bad
shown_bad region at name code what true true each = refl
shown_bad region at name code what true false each = refl
shown_bad region at name code what false true each = absurd (false≢true (each refl))
shown_bad region at name code what false false each = refl

bad_hash : (asked : Asked) (rules : HashRules) (region : List ℕ) (at : ℕ) (name : List ℕ) (content : Content)
    → list_any (has_verdict Bad) (hash_rows asked rules region at name content) ≡ is_bad_hash rules name content
bad_hash asked rules region at name content =
    list_any-append (has_verdict Bad) (only_if (has_hash_row asked rules content) (at_component region at name (hash_row rules name content))) _
    ∙ rw (shown_bad region at name _ _ (has_hash_row asked rules content) (is_bad_hash rules name content) (bad_shown asked rules name content content.hash)) (go (is_bad_hash rules name content) (has_hash_not_of_anchor rules content))
  where
    go : (bad other : Bool) → (bad || list_any (has_verdict Bad) (only_if other (at_component region at name (row Remark "hash-other-algorithm" "hash isn't of the anchor's algorithm")))) ≡ bad
    go true other = refl
    go false true = refl
    go false false = refl

-- a fault of the attributes has a row
bad_attributes : (region : List ℕ) (at : ℕ) (name : List ℕ) (fault : Option AttributeFault) → list_any (has_verdict Bad) (attribute_rows region at name fault) ≡ is_some fault
bad_attributes region at name None = refl
bad_attributes region at name (Some fault) = refl

-- a remark or none before other rows
no_bad : (b : Bool) (row : SeenRow) (rest : List SeenRow) → has_verdict Bad row ≡ false → list_any (has_verdict Bad) (only_if b row ++ rest) ≡ list_any (has_verdict Bad) rest
no_bad true row rest is = rw is refl
no_bad false row rest is = refl

bad_component : (asked : Asked) (rules : HashRules) (region : List ℕ) (at : ℕ) (name : List ℕ) (shadowed : Bool) (content : Content)
    → list_any (has_verdict Bad) (component_rows asked rules region (of_region.Component at name shadowed content)) ≡ is_bad_region rules (of_region.Component at name shadowed content)
bad_component asked rules region at name true content = refl
bad_component asked rules region at name false content = go (has_long_metadata at content)
  where
    rest : List SeenRow
    rest = only_if (not (is_utf8 name)) (at_component region at name (row Remark "component-name" "name isn't UTF-8"))
        ++ (only_if (is_none (name_of_type content.kind)) (at_component region at name (with_number content.kind (row Remark "component-type" "type without a name")))
        ++ (hash_rows asked rules region at name content ++ attribute_rows region at name content.fault))

    go : (long : Bool) → list_any (has_verdict Bad) (only_if long (at_component region at name (row Bad "metadata-too-long" "metadata longer than 256 bytes: firmware can't find it")) ++ rest) ≡ (long || (is_bad_hash rules name content || is_some content.fault))
    go true = refl
    go false =
        no_bad (not (is_utf8 name)) _ _ refl
        ∙ no_bad (is_none (name_of_type content.kind)) _ _ refl
        ∙ list_any-append (has_verdict Bad) (hash_rows asked rules region at name content) _
        ∙ ap (λ b. b || list_any (has_verdict Bad) (attribute_rows region at name content.fault)) (bad_hash asked rules region at name content)
        ∙ ap (λ b. is_bad_hash rules name content || b) (bad_attributes region at name content.fault)

abbrev rows_in : Asked → HashRules → List ℕ → RegionFinding → List SeenRow
rows_in asked rules area f = option_map_or (λ row. in_area area row ∷ []) (plain_row f) (component_rows asked rules area f)

bad_region : (asked : Asked) (rules : HashRules) (region : List ℕ) (f : RegionFinding) → list_any (has_verdict Bad) (rows_in asked rules region f) ≡ is_bad_region rules f
bad_region asked rules region (of_region.Component at name shadowed content) = bad_component asked rules region at name shadowed content
bad_region asked rules region (of_region.Components zero) = refl
bad_region asked rules region (of_region.LargestContent None) = refl
bad_region asked rules region _ = refl

bad_finding : (asked : Asked) (names : List (Bor (List ℕ))) (f : ImageFinding) → list_any (has_verdict Bad) (rows_of asked names f) ≡ is_bad asked.needs_hashes f
bad_finding asked names (Map f) = bad_map f
bad_finding asked names (OfAnchor f) = bad_anchor f
bad_finding asked names (Region a anchor findings) =
    let rules = rules_of asked.needs_hashes anchor in
    bad_rows (rows_in asked rules (area_name a)) (is_bad_region rules) (bad_region asked rules (area_name a)) findings
bad_finding asked names (NotChecked a true) = refl
bad_finding asked names _ = refl

pub returns : goal.returns
returns c = record {
  findings = λ asked names. bad_rows (rows_of asked names) (is_bad asked.needs_hashes) (bad_finding asked names);
  board = bad_board;
  structures = λ request i fine. unharmed_by request i.areas.items i.changes
      (both_fine ((finding_rows request.asked request.areas.now i.findings.items ++ need_rows i.findings.items request.needs.now) ++ board_rows i.board.items) (option_map_or (change_rows request i.areas.items) i.changes []) fine).1;
  limits = bad_after [];
}
