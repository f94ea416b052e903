use Rattle.std.proofs.Common.{rules}
use Rattle.std.proofs.lemmas.Iterator.{YieldsList-from_map_by, YieldsList-from_slice}
use Rattle.std.proofs.lemmas.Iterator.Consumers.{YieldsList-at, YieldsList-from_chain, map_from_collect}
use Rattle.check_report.specs.Rows.{area_name}
use Rattle.check_report.proofs.names.with_areas.Goals as goal

pub returns : goal.returns
returns c = map_from_collect _ c.collect.ensures.ran
    (YieldsList-from_chain (YieldsList-at c.chain.ensures.first (YieldsList-from_map_by _ (λ r. r.now) (λ n. n.now) (YieldsList-from_slice c.args.more.now cc) c.map.ensures.closure (λ x r q k. search rules)))
    (YieldsList-at c.chain.ensures.second (YieldsList-from_map_by _ (λ r. r.now) area_name (YieldsList-from_slice c.args.areas.now cc) c.map-areas.ensures.closure (λ x r q k. search rules)))
    c.chain.ensures.first_done c.chain.ensures.second_done)
