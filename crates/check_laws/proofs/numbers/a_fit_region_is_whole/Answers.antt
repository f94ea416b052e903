use Rattle.std.proofs.Common.{◌∷◌, [], false, None, refl, subst, sym, arith}
use Rattle.std.specs.Prelude.{Contains, List}
use Rattle.flash_format.specs.Components.{Component}
use Rattle.check_laws.specs.Samples.{small_region}
use Rattle.check_laws.proofs.SmallRegion.{its_component, its_name, its_numbers, none_bad, one_component}
use Rattle.check_laws.proofs.numbers.a_fit_region_is_whole.Goals as goal

pub returns : goal.returns
returns c =
    let there : Contains (its_component ∷ []) its_component = (0, omega arith, refl) in
    let found = (c.fit_regions_are_whole.ensures false None small_region none_bad).found its_component (subst (λ (l : List Component). Contains l its_component) (sym one_component) there) in
    rw (← its_name, found) its_numbers
