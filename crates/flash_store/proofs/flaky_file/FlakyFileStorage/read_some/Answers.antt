use Rattle.std.proofs.Common.{◌∙◌, ◌≡◌, length, arith, refl, ap}
use Rattle.std.proofs.lemmas.Grind.{common_steps}
use Rattle.std.proofs.lemmas.List.{take_at, length-take-le}
use Rattle.flash_store.proofs.StoringLemmas.{stored_alike}
use Rattle.flash_store.proofs.flaky_file.FlakyFileStorage.read_some.Goals as goal

pub returns : goal.returns
returns c =
    let n = c.min-n.result in
    let size : length c.copy_from_slice.new.self ≡ n = omega (arith, c.copy_from_slice.ensures.len, length-take-le n c.args.out.now (omega (arith, c.min-n.ensures))) in
    record {
      after = record { same = record { same_faith = refl; same_length = ap (λ f. length f.content.items) c.begin.ensures.same }; unchanged = λ h. stored_alike (ap (λ f. f.content.items) c.begin.ensures.same) (ap (λ f. f.written_at) c.begin.ensures.same) (ap (λ f. f.written_len) c.begin.ensures.same) };
      short = omega (arith, c.min-n.ensures);
      read = λ h. take_at c.copy_from_slice.new.self _ n size ∙ grind (arith, common_steps);
    }
