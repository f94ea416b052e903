use Rattle.fmd_lang.proofs.LayoutLemmas.{field-is}
use Rattle.fmd_lang.proofs.names.field_of.Goals as goal

pub returns : goal.returns
returns c =
    let name = c.args.name.now in
    rw (c.copy_from_slice.ensures.after, c.min-len.ensures) (field-is name)
