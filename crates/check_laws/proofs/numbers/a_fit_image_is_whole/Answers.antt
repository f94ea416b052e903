use Rattle.std.proofs.Common.{◌∷◌, [], List, false, refl, subst, arith, All}
use Rattle.std.specs.Prelude.{Contains}
use Rattle.std.proofs.lemmas.List.Elements.{All-contains}
use Rattle.flash_format.specs.Components.{components}
use Rattle.check_findings.specs.declared.areas.NumberedArea.{NumberedArea}
use Rattle.check_findings.specs.Laws.{IsFit}
use Rattle.check_findings.specs.ImageFindings.{bytes_of}
use Rattle.check_laws.specs.Samples.{coreboot_area, small_image}
use Rattle.check_laws.proofs.SmallImage.{its_region, no_bad_finding, one_region}
use Rattle.check_laws.proofs.SmallRegion.{its_component, its_name, its_numbers, one_component}
use Rattle.check_laws.proofs.numbers.a_fit_image_is_whole.Goals as goal

pub returns-clause-found : goal.returns-clause-found
returns-clause-found c =
    let all = subst (λ (l : List NumberedArea). All (IsFit small_image) l) one_region (c.fit_images_are_whole.ensures false small_image [] [] no_bad_finding) in
    (All-contains (IsFit small_image) (coreboot_area ∷ []) coreboot_area all (0, omega arith, refl)).0

pub returns-clause-component : goal.returns-clause-component
returns-clause-component c =
    let all = subst (λ (l : List NumberedArea). All (IsFit small_image) l) one_region (c.fit_images_are_whole.ensures false small_image [] [] no_bad_finding) in
    let whole = (All-contains (IsFit small_image) (coreboot_area ∷ []) coreboot_area all (0, omega arith, refl)).1 in
    let there : Contains (its_component ∷ []) its_component = (0, omega arith, refl) in
    let has : Contains (components (bytes_of small_image coreboot_area)) its_component = rw (its_region, one_component) there in
    rw (← its_name, whole.found its_component has) its_numbers.0
