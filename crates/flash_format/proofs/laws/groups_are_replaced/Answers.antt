use Rattle.std.proofs.lemmas.List.{append-nil}
use Rattle.flash_format.proofs.Splices.{components-free, splice-cut, splice-components}
use Rattle.flash_format.proofs.laws.groups_are_replaced.Goals as goal

pub returns : goal.returns
returns c = λ x start end g new each size.
    let listed = splice-components x start end g new each size in
    record { cells = splice-cut x start end g new each size; listed = listed; emptied = λ free. rw (components-free start new free, append-nil) at listed }
