use Rattle.std.proofs.Common.{◌≡◌, arith, ap, ◌∙◌}
use Rattle.std.specs.List.{list_any}
use Rattle.flash_format.specs.Entry.{is_nul, name_end}
use Rattle.flash_device.specs.Regions.{bytes_in}
use Rattle.cbfs_walk.proofs.Parts.{name_read}
use Rattle.cbfs_walk.proofs.CellNames.{has_field}
use Rattle.cbfs_walk.proofs.names.has_name_end.Goals as goal

pub returns : goal.returns
returns g c =
    let x = bytes_in c.args.region c.args.paged.now.device.content in
    let nul : c.contains.result ≡ list_any is_nul c.in_ok-bytes.bytes.now = c.contains.ensures.value in
    record {
      passed = rw c.in_ok-bytes.was at c.piece_in.follows.holds-at-none;
      value = λ h. name_read x c.args.cell.now.at (name_end c.args.cell.now.head) c.min-n.result c.contains.result (nul ∙ ap (list_any is_nul) (c.in_ok-bytes.ensures.read h)) (has_field c.args.region.size c.args.cell.now c.requires.cell).low (omega (arith, c.name_end.ensures, c.min-n.ensures));
    }
