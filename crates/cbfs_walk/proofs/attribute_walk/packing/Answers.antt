use Rattle.std.proofs.lemmas.Grind.{common_steps}
use Rattle.std.proofs.Common.{arith, le_refl, ap, ◌∙◌}
use Rattle.std.specs.Option.{option_map_or}
use Rattle.flash_format.specs.Head.{be32}
use Rattle.flash_format.specs.Components.{compression_of}
use Rattle.flash_device.proofs.DeviceLemmas.{honest_still}
use Rattle.cbfs_walk.proofs.ReadSequences.{Passes-answers, Passes-then, IfOk-to}
use Rattle.cbfs_walk.proofs.AttributeScans.{attributes_found, value_is}
use Rattle.cbfs_walk.proofs.attribute_walk.packing.Goals as goal

pub returns-in-Some-clause-calls : goal.returns-in-Some-clause-calls
returns-in-Some-clause-calls g c =
    let attribute = rw c.in-Some.is at c.in_ok-at.ensures.attribute in
    Passes-answers (Passes-then (rw c.in-Some.is at c.in_ok-at.ensures.first.passed) c.value_at.ensures.passed (le_refl _) (omega arith) (le_refl _)) (omega (arith, attribute.1.inside, attribute.1.head))

pub returns-in-Some-clause-value : goal.returns-in-Some-clause-value
returns-in-Some-clause-value g c = λ h.
    let calls = c.first_attribute.ensures.first.passed.read.device in
    let told = rw c.in-Some.is at (c.in_ok-at.ensures.first.value h) in
    IfOk-to _ _ _ (value_is _ c.args.cell.now _ (rw c.in-Some.is at c.in_ok-at.ensures.attribute) ∙ ap (λ o. option_map_or (be32 0) o 0) told)
    (rw (calls.unchanged h) at (c.value_at.ensures.value (honest_still calls.calls.same_honesty h)))

pub returns-in-Some-clause-compression : goal.returns-in-Some-clause-compression
returns-in-Some-clause-compression g c = λ h stands. IfOk-to _ _ _ (ap compression_of (attributes_found c.args.region _ c.args.cell.now c.requires.region.inside c.requires.cell stands)) (returns-in-Some-clause-value g c h)

pub returns-in-None-clause-compression : goal.returns-in-None-clause-compression
returns-in-None-clause-compression g c = grind (arith, common_steps, attributes_found)
