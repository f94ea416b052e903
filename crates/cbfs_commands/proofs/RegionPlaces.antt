-- A named region lies in its image, and writes over it depend only on its own bytes.
use Rattle.std.proofs.lemmas.Grind.{common_steps}
use Rattle.std.proofs.Common.{◌≡◌, ℕ, ◌+◌, ◌≤◌, List, length, take, Option, Ok, sym, ◌∙◌, ap, arith}
use Rattle.std.specs.Prelude.{slice_range}
use Rattle.std.proofs.lemmas.Bool.{cases_lt}
use Rattle.flash_format.specs.declared.flashmap.Area.{Area}
use Rattle.flash_device.specs.Device.{overwritten}
use Rattle.flash_device.specs.Regions.{Range, LiesIn, bytes_in}
use Rattle.flash_map.specs.Regions.{region_by_area, region_of}
use Rattle.flash_device.proofs.BytesLemmas.{overwritten-range}
use Rattle.flash_device.proofs.RegionLemmas.{written_in}

pub inside_lies : (n : ℕ) (area : Option Area) (r : Range) → region_by_area n area ≡ Ok r → r.start + r.size ≤ n
inside_lies n area r is = grind (arith, common_steps)

pub region_lies : (image name : List ℕ) (r : Range) → region_of image name ≡ Ok r → LiesIn r image
unfolding region_of
region_lies image name r is = grind (arith, common_steps)

-- ---- bytes over a region

-- longer than the region
longer : (r : Range) (image u : List ℕ) → LiesIn r image → r.size ≤ length u → bytes_in r (overwritten image r.start u) ≡ take r.size u
longer r image u lies long = grind (arith, common_steps)

shorter : (r : Range) (image u : List ℕ) → LiesIn r image → length u ≤ r.size → bytes_in r (overwritten image r.start u) ≡ overwritten (bytes_in r image) 0 u
shorter r image u lies short =
    let place : r.start ≡ r.start + 0 = omega arith in
    ap (λ n. bytes_in r (overwritten image n u)) place ∙ written_in r image 0 u lies (omega (arith, short))

pub alike_over : (r : Range) (image other u : List ℕ) → LiesIn r image → LiesIn r other → bytes_in r other ≡ bytes_in r image → bytes_in r (overwritten other r.start u) ≡ bytes_in r (overwritten image r.start u)
alike_over r image other u lies lies_other same = grind (arith, common_steps, cases_lt, longer, shorter)

pub whole_over : (r : Range) (image u : List ℕ) → LiesIn r image → length u ≡ r.size → bytes_in r (overwritten image r.start u) ≡ u
whole_over r image u lies size = ap (λ n. slice_range (overwritten image r.start u) r.start (r.start + n)) (sym size) ∙ overwritten-range image r.start u (omega (arith, lies))
