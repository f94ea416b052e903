-- The output of commands on whole regions.
use Rattle.std.proofs.Common.{◌≡◌, ◌≢◌, ◌-◌, ap, arith, ℕ, Bool, List, Option, Ok, refl}
use Rattle.std.specs.Prelude.{Contains, ◌%◌}
use Rattle.flash_format.specs.Components.{Component, components}
use Rattle.flash_format.specs.Flashmap.{text_of}
use Rattle.check_findings.specs.ImageFindings.{bytes_of, entry_bytes}
use Rattle.flash_device.specs.Regions.{bytes_in}
use Rattle.flash_format.specs.declared.head.DamageKind.{DamageKind}
use Rattle.flash_format.specs.Cut.{End, complete, tail, damage, cut}
use Rattle.check_findings.specs.declared.areas.NumberedArea.{NumberedArea}
use Rattle.cbfs_walk.specs.CellReadings.{place_after}
use Rattle.cbfs_anchor.specs.declared.anchor.Anchor.{Anchor}
use Rattle.check_findings.specs.Laws.{IsFit, IsWhole}
use Rattle.cbfs_commands.specs.Outcomes.{end_answer, extract_region, print_region, printed_component, printed_in}
use Rattle.cbfs_commands.specs.Outcomes.{shows}
use Rattle.cbfs_commands.specs.Rows.{rows_from}

abbrev pub IsListed : List ℕ → NumberedArea → Type 0
IsListed image a = (verbose : Bool) → a.area.size % 64 ≡ 0 → printed_in image (text_of a.area.name)
    (λ x. print_region x verbose) ≡ shows (rows_from verbose 0 (cut (bytes_of image a)).cells)

abbrev pub IsExtracted : List ℕ → NumberedArea → Type 0
IsExtracted image a = (c : Component) → a.area.size % 64 ≡ 0 → Contains (components (bytes_of image a)) c
    → printed_in image (text_of a.area.name) (λ x. extract_region x c.name) ≡ printed_component c

undamaged : (at : ℕ) (end : End) → ((kind : DamageKind) → end ≢ damage kind) → end_answer at end ≡ Ok tt
undamaged at complete whole = refl
undamaged at tail whole = refl
undamaged at (damage kind) whole = absurd (whole kind refl)

pub whole_region : (anchor : Option Anchor) (x : List ℕ) (verbose : Bool) → IsWhole anchor x → print_region x verbose ≡ shows (rows_from verbose 0 (cut x).cells)
unfolding print_region
whole_region anchor x verbose whole = rw (whole.shaped, undamaged (place_after 0 (cut x).cells) (cut x).end whole.undamaged) refl

-- entries can fill an area whose size is a multiple of 64 bytes
filled : (image : List ℕ) (a : NumberedArea) → a.area.size % 64 ≡ 0 → entry_bytes image a ≡ bytes_of image a
filled image a aligned =
    let same : a.area.size - a.area.size % 64 ≡ a.area.size = omega (arith, aligned) in
    ap (λ n. bytes_in (record { start = a.area.offset; size = n }) image) same

pub listed_area : (image : List ℕ) (a : NumberedArea) → IsFit image a → IsListed image a
listed_area image a fit verbose aligned = rw fit.0 (whole_region _ _ verbose (rw (filled image a aligned) at fit.1))

pub extracted_area : (image : List ℕ) (a : NumberedArea) → IsFit image a → IsExtracted image a
extracted_area image a fit c aligned there = rw (fit.0, (rw (filled image a aligned) at fit.1).found c there) refl
