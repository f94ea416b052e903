use Rattle.std.proofs.Common.{◌++◌, ◌-◌, List, Option, None, length, map, drop, replicate, refl, ap, ◌∙◌, arith}
use Rattle.std.proofs.lemmas.List.{length-map}
use lib.Chars.{codes}
use Rattle.flash_format.specs.declared.flashmap.Area.{Area}
use Rattle.flash_format.specs.Flashmap.{areas_from}
use Rattle.flash_device.proofs.DeviceLemmas.{honest_still, Reads-none, Reads-then}
use Rattle.flash_map.specs.Fmap.{first_area}
use Rattle.cbfs_commands.proofs.PlanSteps.{areas-and, none-found}
use Rattle.cbfs_commands.proofs.create.flashmap.first_areas.Goals as goal

pub loop-i-init : goal.loop-i-init
unfolding areas_from
loop-i-init g c = (Reads-none _, λ h. (refl, none-found _ 16 _ (omega (arith, c.requires.few, length-map c.args.names.now (λ n. n.now)))))

pub loop-i-preserved : goal.loop-i-preserved
loop-i-preserved g c =
    let reads = c.loop-i.invariant.0 in
    let read = c.in_ok-area.ensures in (
      Reads-then c.loop-i.i 1 0 _ _ _ reads read.calls,
      λ h.
          let seen = areas_from c.loop-i.i (drop 56 (g.S.Source.facts c.args.source.now).content) in
          let rest : List (Option Area) = replicate (16 - length c.args.names.now) None in
          let before = c.loop-i.invariant.1 h in
          let more = areas-and c.loop-i.i _ _ c.in_ok-area.area (reads.unchanged h) (read.area (honest_still reads.calls.same_honesty h)) in (
            c.noted-found.ensures seen before.0 ∙ ap (λ (areas : List Area). first_area areas (codes "FMAP")) more,
            c.note_each.ensures seen rest before.1 ∙ ap (λ (areas : List Area). map (first_area areas) (map (λ n. n.now) c.args.names.now) ++ rest) more,
          ),
    )
