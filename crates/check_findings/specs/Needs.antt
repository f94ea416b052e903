-- Required components.
use Rattle.std.specs.Prelude.{ℕ, ◌+◌, ◌==◌, Bool, not, true, List, [], ◌∷◌, Option, Some}
use Rattle.std.specs.Prelude.{if◌then◌else◌}
use Rattle.std.specs.Bool.{then_some}
use Rattle.std.specs.Option.{option_map_or}
use Rattle.flash_format.specs.Flashmap.{is_area}
use Rattle.check_findings.specs.declared.region.finding.Content.{Content}
use Rattle.check_findings.specs.declared.region.finding.RegionFinding.{RegionFinding}
use Rattle.check_findings.specs.RegionFindings.{first_content}
use Rattle.check_findings.specs.declared.image.finding.ImageFinding.{ImageFinding}
use Rattle.check_findings.specs.declared.image.finding.ImageFinding.TheVariants.{Region}
use Rattle.check_findings.specs.declared.image.needs.Need.{Need}
use Rattle.check_findings.specs.declared.image.needs.NeedFinding.{NeedFinding}
use Rattle.check_findings.specs.declared.image.needs.NeedFinding.TheVariants.{Missing, Elsewhere}
use Rattle.check_findings.specs.declared.image.needs.NeededPlace.{NeededPlace}
use Rattle.check_findings.specs.declared.image.needs.NeededPlace.TheVariants as places

-- a need with copies of its names: of the area, and of the component
pub record NeedBytes : Type 0 where
  pub area : List ℕ
  pub name : List ℕ
  pub place : NeededPlace

abbrev pub need_bytes : Need → NeedBytes
need_bytes need = record { area = need.area.now; name = need.name.now; place = need.place }

-- the content has the needed place in an area of this size
abbrev pub is_met : NeededPlace → Content → ℕ → Bool
is_met places.Any content size = true
is_met (places.At start) content size = content.start == start
is_met places.End content size = content.start + content.len == size

-- the reason if a content isn't at the needed place of its area
abbrev pub unmet_by_content : NeededPlace → ℕ → Content → Option NeedFinding
unmet_by_content place size c = then_some (not (is_met place c size)) (Elsewhere c.start)

-- the reason if the findings of the needed area don't meet the need: the area lacks the component,
-- or has its content at another place
abbrev pub unmet_in_area : Need → ℕ → List RegionFinding → Option NeedFinding
unmet_in_area need size findings = option_map_or (unmet_by_content need.place size)
    (first_content need.name.now findings) (Some Missing)

-- The reason if the findings of an image don't meet the need. The first checked area with the area
-- name decides. If no checked area has the name, the component is missing.
abbrev pub unmet : List ImageFinding → Need → Option NeedFinding
unmet [] need = Some Missing
unmet (Region a anchor all ∷ findings) need = if is_area need.area.now a.area
    then unmet_in_area need a.area.size all else unmet findings need
unmet (_ ∷ findings) need = unmet findings need
