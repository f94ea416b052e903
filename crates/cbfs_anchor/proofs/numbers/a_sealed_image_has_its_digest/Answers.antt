use Rattle.std.proofs.Common.{[], arith}
use Rattle.std.proofs.lemmas.Bool.{and_parts}
use Rattle.std.proofs.lemmas.Slice.Eq.{bytes_eq-Decides}
use Rattle.flash_device.specs.Regions.{LiesIn}
use Rattle.cbfs_anchor.specs.Layout.{digests_range}
use Rattle.cbfs_anchor.specs.Samples.{small_anchor, small_image, small_map, small_survey}
use Rattle.cbfs_anchor.specs.Seals.{sealed, stored_metadata}
use Rattle.cbfs_anchor.proofs.SmallImage.{its_length}
use Rattle.cbfs_anchor.proofs.numbers.a_sealed_image_has_its_digest.Goals as goal

its_digests : LiesIn (digests_range small_anchor) small_image
its_digests = omega (arith, its_length)

pub returns-clause-valid : goal.returns-clause-valid
returns-clause-valid c =
    let valid = c.sealed_images_are_valid.ensures.valid small_anchor [] small_map small_image its_digests in
    (bytes_eq-Decides (stored_metadata small_anchor (sealed small_survey small_image)) small_survey.metadata).0 (and_parts _ _ valid).0

pub returns-clause-again : goal.returns-clause-again
returns-clause-again c = c.sealed_images_are_valid.ensures.again small_anchor [] small_map small_image its_digests
