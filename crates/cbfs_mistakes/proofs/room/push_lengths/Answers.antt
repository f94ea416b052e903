use Rattle.std.proofs.Common.{◌∙◌, ◌++◌, ap, append_assoc}
use Rattle.cbfs_mistakes.specs.Rooms.{largest_text}
use Rattle.cbfs_mistakes.proofs.room.push_lengths.Goals as goal

pub returns : goal.returns
returns c =
    c.in_ok-push_largest.ensures
    ∙ ap (λ l. l ++ largest_text c.args.largest) c.in_ok-push_number.ensures
    ∙ append_assoc c.args.out.now.items _ (largest_text c.args.largest)
