use Rattle.std.proofs.Common.{arith, length, rules, sym, take}
use Rattle.std.proofs.lemmas.Grind.{common_steps}
use Rattle.cbfs_commands.specs.Creations.{plan_for}
use Rattle.cbfs_commands.proofs.CreatedRegions.{laid}
use Rattle.cbfs_commands.proofs.OwnResults.{faultless_places}
use Rattle.cbfs_commands.proofs.PlanLaws.{are_places}
use Rattle.cbfs_commands.proofs.create.plan.read_plan.Goals as goal

pub returns-in_err-regions-clause-plan : goal.returns-in_err-regions-clause-plan
unfolding plan_for
returns-in_err-regions-clause-plan g c =
    let faultless = faultless_places c.args.image_len (take (length c.args.names.now) c.in_ok-found.found.regions) _ _ c.region_places.ensures in
    grind (arith, common_steps, faultless)

pub returns-clause-sound : goal.returns-clause-sound
returns-clause-sound g c = laid _ _ _ (record {
  in_source = search rules;
  room = search rules;
  map = search rules;
  regions = are_places c.args.image_len (take (length c.args.names.now) c.in_ok-found.found.regions) _ (sym c.in_ok-regions.ensures);
  none = grind (arith, common_steps);
})
