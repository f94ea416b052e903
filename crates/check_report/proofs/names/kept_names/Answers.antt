use Rattle.std.proofs.Common.{rules, tests}
use Rattle.std.specs.Prelude.{◌&&◌}
use Rattle.std.proofs.lemmas.Iterator.{YieldsList-from_map_by, YieldsList-from_slice}
use Rattle.std.proofs.lemmas.Iterator.Consumers.{YieldsList-at, YieldsList-from_chain, YieldsList-from_filter, map_from_collect}
use Rattle.check_report.specs.Reports.{is_preserved}
use Rattle.check_report.specs.Rows.{area_name}
use Rattle.check_report.proofs.names.kept_names.Goals as goal

pub returns : goal.returns
returns c =
    rw c.areas_or.ensures at (map_from_collect _ c.collect.ensures.ran
    (YieldsList-from_chain (YieldsList-at c.chain.ensures.first (YieldsList-from_map_by _ (λ r. r.now) (λ n. n.now) (YieldsList-from_slice c.args.request.kept.now cc) c.map-given.ensures.closure (λ x r q k. search rules)))
    (YieldsList-at c.chain.ensures.second (YieldsList-from_map_by _ (λ r. r.now) area_name (YieldsList-at c.map-names.ensures.source
    (YieldsList-from_filter _ (λ a. c.args.request.keeps_preserved && is_preserved a)
    (YieldsList-at c.filter-areas.ensures.source
    (YieldsList-from_chain (YieldsList-from_slice c.areas_or.result.now cc) (YieldsList-from_slice c.args.new_areas.now cc) c.chain-areas.ensures.first_done c.chain-areas.ensures.second_done))
    c.filter-areas.ensures.closure (λ x r q k. search (rules, tests))))
    c.map-names.ensures.closure (λ x r q k. search rules)))
    c.chain.ensures.first_done c.chain.ensures.second_done))
