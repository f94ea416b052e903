use Rattle.std.proofs.Common.{rules}
use Rattle.cbfs_edit.proofs.Places.{fits_at}
use Rattle.cbfs_edit.proofs.place.place_in.Goals as goal

pub returns-clause-fits : goal.returns-clause-fits
returns-clause-fits c = search (rules, fits_at)
