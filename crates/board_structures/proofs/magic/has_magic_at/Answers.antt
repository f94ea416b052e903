use Rattle.std.proofs.Common.{◌∙◌, ap, drop}
use Rattle.std.specs.Prelude.{nat_eq}
use Rattle.std.specs.List.{starts_with}
use Rattle.std.proofs.lemmas.List.{drop_min, take_rest}
use Rattle.board_structures.proofs.magic.has_magic_at.Goals as goal

pub returns : goal.returns
returns c =
    let bytes = c.args.bytes.now in
    c.starts_with.ensures.value ∙ ap (λ l. starts_with nat_eq l c.args.magic.now) (take_rest bytes c.min.result ∙ ap (λ n. drop n bytes) c.min.ensures ∙ drop_min c.args.at bytes)
