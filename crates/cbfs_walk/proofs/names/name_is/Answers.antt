use Rattle.std.proofs.lemmas.Grind.{common_steps}
use Rattle.std.proofs.Common.{arith, ◌∙◌, ap, take}
use Rattle.std.specs.Str.{bytes_eq}
use Rattle.flash_device.specs.Regions.{bytes_in}
use Rattle.cbfs_walk.proofs.Parts.{length-region}
use Rattle.cbfs_walk.proofs.CellNames.{name_compared, name_too_long}
use Rattle.cbfs_walk.proofs.Texts.{text_len}
use Rattle.cbfs_walk.proofs.names.name_is.Goals.{then-name-gt-LONGEST-via-then-name-gt-LONGEST, then-name-gt-LONGEST-via-else-name-gt-LONGEST+then-name-name_end}
use Rattle.cbfs_walk.proofs.names.name_is.Goals as goal

pub returns-then-name-gt-LONGEST-clause-named : goal.returns-then-name-gt-LONGEST-clause-named
returns-then-name-gt-LONGEST-clause-named g c = grind (arith, common_steps, length-region, name_too_long, then-name-gt-LONGEST-via-then-name-gt-LONGEST)

pub returns-clause-named : goal.returns-clause-named
returns-clause-named g c = λ h stands.
    let image = c.args.paged.now.device.content in
    let bytes = c.in_ok-bytes.bytes.now in
    let len = length-region c.args.region image c.requires.region.inside in
    c.eq.ensures ∙ ap (λ k. bytes_eq (take k bytes) c.args.name.now) (c.text_len.ensures ∙ text_len bytes)
    ∙ name_compared (bytes_in c.args.region image) c.args.region.size c.args.cell.now c.requires.cell len
    _ c.args.name.now _ c.name_end.ensures c.if-name-name_end.false stands (c.in_ok-bytes.ensures.read h)
