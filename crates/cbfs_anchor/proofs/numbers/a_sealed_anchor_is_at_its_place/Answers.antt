use Rattle.std.proofs.Common.{refl, arith}
use Rattle.cbfs_anchor.specs.declared.demand.Demand.TheVariants.{Found}
use Rattle.cbfs_anchor.specs.Samples.{small_found, small_image, small_survey}
use Rattle.cbfs_anchor.proofs.SmallImage.{its_map, its_survey}
use Rattle.cbfs_anchor.proofs.numbers.a_sealed_anchor_is_at_its_place.Goals as goal

pub returns : goal.returns
returns c =
    let found = c.seals_keep_the_anchor.ensures.found Found small_image small_found small_survey (λ is. cc) its_map (omega arith) its_survey in
    rw found (refl, refl)
