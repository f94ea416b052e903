use Rattle.std.proofs.Common.{◌≡◌, ◌∙◌, ap, length}
use Rattle.flash_format.specs.Made.{meta_length}
use Rattle.cbfs_edit.specs.Additions.{metadata_len_of, new_component}
use Rattle.cbfs_edit.specs.declared.place.Wanted.{Wanted}
use Rattle.cbfs_edit.proofs.addition.wanted_of.Goals as goal

pub returns : goal.returns
returns c = λ kind content len.
    let new = new_component c.args.name.now kind c.args.hash content in
    let metadata : c.meta_len.result ≡ metadata_len_of new = c.meta_len.ensures ∙ ap (λ n. meta_length (length new.name) n) (c.attribute_len.ensures.is content) in
    ap (λ n. let w : Wanted = record { metadata_len = n; len = c.args.len; spot = c.args.spot } in w) metadata
    ∙ ap (λ n. let w : Wanted = record { metadata_len = metadata_len_of new; len = n; spot = c.args.spot } in w) len
