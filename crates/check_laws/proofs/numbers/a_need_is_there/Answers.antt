use Rattle.std.proofs.Common.{[]}
use Rattle.check_laws.specs.Samples.{small_image}
use Rattle.check_laws.proofs.SmallImage.{need_met, one_region}
use Rattle.check_laws.proofs.numbers.a_need_is_there.Goals as goal

pub returns : goal.returns
returns c = λ need area name place.
    let there = c.needs_are_there.ensures small_image [] [] need (need_met need area name place) in
    rw (one_region, area, name, place) at there
