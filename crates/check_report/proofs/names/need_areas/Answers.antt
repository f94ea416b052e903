use Rattle.std.proofs.Common.{rules}
use Rattle.std.proofs.lemmas.Iterator.{YieldsList-from_map_by, YieldsList-from_slice}
use Rattle.std.proofs.lemmas.Iterator.Consumers.{map_from_collect}
use Rattle.check_findings.specs.declared.image.needs.Need.{Need}
use Rattle.check_report.proofs.names.need_areas.Goals as goal

pub returns : goal.returns
returns c = map_from_collect _ c.collect.ensures.ran
    (YieldsList-from_map_by _ (λ r. r.now) (λ (n : Need). n.area.now)
    (YieldsList-from_slice c.args.needs.now cc) c.map.ensures.closure (λ x r q k. search rules))
