use Rattle.std.proofs.lemmas.Grind.{common_steps}
use Rattle.std.proofs.lemmas.List.{take_all}
use Rattle.std.proofs.Common.{◌-◌, ◌∙◌, arith, ap, drop, length, length-drop, map, refl, take}
use Rattle.fmap_steps.specs.Explanations.{visible}
use Rattle.fmap_steps.proofs.Fronts.{front}
use Rattle.fmap_steps.proofs.excerpt.excerpt_at.Goals as goal

pub returns : goal.returns
returns c =
    let source = c.args.position.now.source.now in
    let start = c.saturating_sub-start.result in
    record {
      start = start;
      bytes = c.loop-byte.invariant.0 ∙ ap (map visible) (front _ _ 100 c.loop-byte.byte-index (rw c.min.ensures refl) c.loop-byte-test.false
          ∙ ap (take 100) (take_all (length source - start) (drop start source) (omega (arith, length-drop start source))));
      mark = grind (arith, common_steps);
      near = grind (arith, common_steps);
    }
