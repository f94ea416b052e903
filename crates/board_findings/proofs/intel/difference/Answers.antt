use Rattle.board_findings.proofs.Differences.{has_area, no_area}
use Rattle.board_findings.proofs.intel.difference.Goals as goal

pub returns-in_default-first_area : goal.returns-in_default-first_area
returns-in_default-first_area c = no_area c.args.region c.args.table.now c.args.areas.now c.in-Some.described c.area_name.result.now c.first_area.result c.in-Some.ensures c.area_name.ensures c.first_area.ensures c.in_default-first_area.is

pub returns : goal.returns
returns c = has_area c.args.region c.args.table.now c.args.areas.now c.in-Some.described c.area_name.result.now c.in-Some-first_area.area c.difference_of.result c.in-Some.ensures c.area_name.ensures c.in-Some-first_area.ensures c.difference_of.ensures
