use Rattle.flash_store.proofs.BufferingLemmas.{joined-push}
use Rattle.flash_store.proofs.output.Output.keep_block.Goals as goal

pub returns-in-Ok : goal.returns-in-Ok
returns-in-Ok g c =
    let kept = joined-push c.self.inside.rest.items c.self.inside.kept.items c.push_back.new.self.items c.replace-block.result c.in-Ok.ensures.items in
    rw (c.replace-block.ensures.after, c.new.ensures.items, kept, c.replace-block.ensures.value) c.self.view_is
