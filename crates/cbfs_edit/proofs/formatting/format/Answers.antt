use Rattle.std.proofs.Common.{◌∙◌, arith, rules, sym}
use Rattle.flash_device.specs.Regions.{bytes_in}
use Rattle.flash_device.proofs.DeviceLemmas.{length-bytes_in}
use Rattle.cbfs_edit.proofs.FormatLemmas.{format_done, format_stopped, good_size}
use Rattle.cbfs_edit.proofs.formatting.format.Goals as goal

pub returns-clause-formatted : goal.returns-clause-formatted
returns-clause-formatted g c = search (rules, format_done, length-bytes_in)

pub returns-in_err-write_empty_entry-clause-stopped : goal.returns-in_err-write_empty_entry-clause-stopped
returns-in_err-write_empty_entry-clause-stopped g c honest = λ is.
    let content = c.args.paged.now.device.content in
    let good = good_size c.size-end.result (sym c.if-has_bad_size.false ∙ c.has_bad_size.ensures) in
    format_stopped (bytes_in c.args.region content) _ c.size-end.result c.args.region.size
    (omega (arith, length-bytes_in c.args.region content c.requires.inside, c.size-end.ensures)) (omega (arith, c.size-end.ensures)) good.0 good.1
    (omega (arith, c.requires.inside, c.requires.below, c.size-end.ensures))
    (c.write_empty_entry.ensures.left honest)
