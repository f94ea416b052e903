use Rattle.std.proofs.Common.{◌∙◌, refl, ap}
use Rattle.flash_store.proofs.StoringLemmas.{written_some, stored_alike}
use Rattle.flash_store.proofs.flaky_file.FlakyFileStorage.write_some.Goals as goal

pub returns-clause-after : goal.returns-clause-after
returns-clause-after c =
    let same = c.begin.ensures.same in
    written_some _ _ c.begin.new.self.content.items c.args.at c.args.bytes.now c.moved-n.result c.requires.inside c.moved-n.ensures.some
    (λ small room. c.moved-n.ensures.all small (ap (λ f. f.written_at) same ∙ room.place) (ap (λ f. f.written_len) same ∙ room.count))
    (ap (λ f. f.content.items) same) c.replace.ensures.content refl c.replace.ensures.range.0 c.replace.ensures.range.1

pub returns-in_err-begin-clause-interrupted : goal.returns-in_err-begin-clause-interrupted
returns-in_err-begin-clause-interrupted c = λ h is.
    let same = c.begin.ensures.same in
    stored_alike (ap (λ f. f.content.items) same) (ap (λ f. f.written_at) same) (ap (λ f. f.written_len) same)
