use Rattle.std.proofs.Common.{◌≡◌, ◌∙◌, ◌+◌, ◌*◌, ◌-◌, ◌++◌, [], ◌∷◌, ap, arith, sym}
use Rattle.std.proofs.lemmas.Grind.{common_steps}
use Rattle.flash_format.specs.Flashmap.{text_of}
use Rattle.flash_device.proofs.DeviceLemmas.{honest_still}
use Rattle.flash_device.proofs.WindowLemmas.{HasRead-then}
use Rattle.cbfs_mistakes.proofs.AreaNames.{all_named, name_added, names_of, texts_from}
use Rattle.cbfs_mistakes.proofs.areas.area_names.Goals as goal

pub loop-i-preserved : goal.loop-i-preserved
loop-i-preserved g c =
    let had = c.loop-i.invariant in
    let image = c.args.paged.now.device.content in
    let n = c.args.found.now.head.nareas in
    let at = c.args.found.now.at + 56 + 42 * c.loop-i.i in
    let next : c.args.found.now.at + 56 + 42 * (c.loop-i.i + 1) ≡ c.args.found.now.at + 56 + 42 * c.loop-i.i + 42 = omega arith in
    let added : c.push.new.self.items ≡ c.loop-i.names.items ++ c.in_ok-name.name ∷ [] = grind (arith, common_steps) in
    let told : c.in_ok-name.name.items ≡ text_of c.in_ok-area.area.name = grind (arith, common_steps) in (
      HasRead-then _ 1 0 _ _ _ had.0 c.in_ok-area.ensures.calls.read,
      λ h.
          let read = rw (had.0.device.unchanged h) at (c.in_ok-area.ensures.area (honest_still had.0.device.calls.same_honesty h)) in
          ap (λ p. names_of c.push.new.self.items ++ texts_from image (n - (c.loop-i.i + 1)) p) next
          ∙ name_added c.loop-i.names.items c.push.new.self.items c.in_ok-name.name image n c.loop-i.i at _ c.loop-i-test.true read added told ∙ had.1 h,
    )

pub returns-clause-names : goal.returns-clause-names
returns-clause-names g c = λ h.
    sym (all_named (names_of c.loop-i.names.items) c.args.paged.now.device.content c.args.found.now.head.nareas c.loop-i.i _ c.loop-i-test.false) ∙ c.loop-i.invariant.1 h
