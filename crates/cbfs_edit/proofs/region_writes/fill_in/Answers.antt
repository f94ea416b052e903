use Rattle.std.proofs.Common.{ℕ, ◌+◌, replicate, arith}
use Rattle.std.proofs.lemmas.List.{length-replicate}
use Rattle.flash_device.proofs.CopyLemmas.{filled-outside}
use Rattle.flash_device.proofs.RegionLemmas.{outside_of, changed_at, written_ok}
use Rattle.cbfs_edit.proofs.region_writes.fill_in.Goals as goal

pub returns : goal.returns
returns g c =
    let r = c.args.region in
    let old = c.args.paged.now.device.content in
    let at = c.start.result + c.args.at in
    let filled = c.fill.ensures.after in
    let outside = filled-outside at c.args.n c.args.byte c.args.paged.now.device _ c.fill.result (omega (arith, c.requires.region.inside, c.requires.inside)) filled in
    record {
      after = record { calls = filled.calls; outside = λ honest. outside_of r old _ at c.args.at c.args.n (omega arith) c.requires.inside (outside honest) };
      written = λ honest.
          written_ok c.fill.result r old _ at c.args.at c.args.n (replicate c.args.n c.args.byte) c.requires.region.inside (omega arith) (length-replicate {A = ℕ} c.args.n c.args.byte) c.requires.inside (filled.filled honest);
      left = λ honest. changed_at r old _ at c.args.at c.args.n (omega arith) c.requires.inside (outside honest);
    }
