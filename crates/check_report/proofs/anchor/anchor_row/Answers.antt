use Rattle.std.proofs.Common.{◌∙◌, ap}
use Rattle.check_report.specs.AnchorRows.{at_spot}
use Rattle.check_report.proofs.anchor.anchor_row.Goals as goal

pub returns-in-NotChecked : goal.returns-in-NotChecked
returns-in-NotChecked c = rw c.in-NotChecked.is (c.at_spot-in-NotChecked.ensures ∙ ap (at_spot c.in-NotChecked.spot) c.row-row.ensures)
