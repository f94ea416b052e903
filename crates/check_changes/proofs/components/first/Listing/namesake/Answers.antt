use Rattle.std.proofs.Common.{◌≡◌, rules}
use Rattle.std.specs.Prelude.{option_copied}
use Rattle.check_changes.specs.Components.{first_of}
use Rattle.check_changes.specs.Components.{IsListedIn}
use Rattle.check_changes.proofs.ComponentLemmas.FirstLemmas.{first_listed}
use Rattle.check_changes.proofs.components.first.Listing.namesake.Goals as goal

pub returns : goal.returns
returns c =
    let l = c.args.self.now in
    let name = c.args.listed.now.name in
    let is : option_copied c.copied.result ≡ first_of name l.all.now = search (rules, l.notes name) in
    record { first = is; listed = first_listed name l.all.now (IsListedIn l.region.size) _ is l.cells }
