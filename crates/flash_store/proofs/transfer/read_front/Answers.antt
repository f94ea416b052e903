use Rattle.std.proofs.Common.{subst, arith, length, take, ◌≡◌}
use Rattle.std.proofs.lemmas.List.{length-take-le}
use Rattle.flash_store.specs.Files.{HasReadSome}
use Rattle.flash_store.proofs.StoringLemmas.{front_read}
use Rattle.flash_store.proofs.transfer.read_front.Goals as goal

pub returns : goal.returns
returns g c =
    let size : length (take c.args.n c.args.out.now) ≡ c.args.n = length-take-le c.args.n c.args.out.now c.requires.room in
    let part = c.read_some.new.out in
    front_read c.args.at c.args.n _ _ c.read_some.result part _ (omega arith)
    (subst (λ n. HasReadSome c.args.at n (g.S.Storage.facts c.args.storage.now) (g.S.Storage.facts c.read_some.new.self) c.read_some.result part) size c.read_some.ensures)
