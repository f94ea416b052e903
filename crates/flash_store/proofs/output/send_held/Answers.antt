use Rattle.flash_store.proofs.BufferingLemmas.{Sends-rest, Sends-blocks, Sends-last}
use Rattle.flash_store.proofs.output.send_held.Goals as goal

pub returns-then-not-send_block-clause-sent : goal.returns-then-not-send_block-clause-sent
returns-then-not-send_block-clause-sent g c = Sends-rest _ _ _ _ _ c.send_block.ensures.sent

pub returns-then-send_blocks-clause-sent : goal.returns-then-send_blocks-clause-sent
returns-then-send_blocks-clause-sent g c =
    let empty = c.send_block.ensures.whole.0 c.if-not-send_block.false in
    let both = Sends-blocks _ _ _ _ _ _ c.args.last.now.items c.args.blocks.now.items c.send_blocks.new.blocks.items c.send_block.ensures.sent empty c.send_blocks.ensures.sent in
    let whole = c.send_blocks.ensures.whole c.if-send_blocks.true in
    Sends-last _ _ _ _ _ _ _ c.send_blocks.new.blocks.items both whole.0 whole.1 c.send_block-then-send_blocks.ensures.sent

pub returns-else-send_blocks-clause-sent : goal.returns-else-send_blocks-clause-sent
returns-else-send_blocks-clause-sent g c =
    let empty = c.send_block.ensures.whole.0 c.if-not-send_block.false in
    Sends-blocks _ _ _ _ _ _ c.args.last.now.items c.args.blocks.now.items c.send_blocks.new.blocks.items c.send_block.ensures.sent empty c.send_blocks.ensures.sent
