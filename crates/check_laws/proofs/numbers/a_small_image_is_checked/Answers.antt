use Rattle.std.proofs.Common.{◌∙◌, ◌≤◌, ◌*◌, [], length}
use Rattle.check_findings.specs.ImageFindings.{areas_to_check, sum_sizes}
use Rattle.check_laws.specs.Samples.{small_image}
use Rattle.check_laws.proofs.SmallImage.{few_bytes, one_to_check}
use Rattle.check_laws.proofs.numbers.a_small_image_is_checked.Goals as goal

pub returns : goal.returns
returns c =
    let few : sum_sizes (areas_to_check small_image [] []) ≤ 2 * length small_image = rw one_to_check few_bytes in
    c.two_image_lengths_are_checked.ensures.all small_image [] [] few ∙ one_to_check
