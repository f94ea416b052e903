use Rattle.std.proofs.Common.{◌≡◌, inr, length, take, ap, sym, rules, arith, length-take-le}
use Rattle.check_line.proofs.reading.searched.Goals as goal

pub slice_bounds-first-end : goal.slice_bounds-first-end
slice_bounds-first-end c = sym (length-take-le 64 c.args.words.now (omega arith))

pub returns-then-branch : goal.returns-then-branch
returns-then-branch c =
    let long : length (take 64 c.args.words.now) ≡ 64 = length-take-le 64 c.args.words.now (omega arith) in
    record {
      whole = c.requires;
      refused = search rules;
      first = ap (λ n. take n c.args.words.now) (sym long);
      far = inr (omega (arith, long));
    }
