use Rattle.std.proofs.Common.{◌-◌, ◌+◌, ap, rules}
use Rattle.std.proofs.lemmas.Result.{on_ok_weaker}
use Rattle.flash_format.specs.Made.{header_length}
use Rattle.flash_device.proofs.DeviceLemmas.{honest_still}
use Rattle.cbfs_edit.proofs.EmptyEntries.{commit_left, fill_done, fill_left, same_region_length}
use Rattle.cbfs_edit.proofs.region_writes.write_empty_entry.Goals as goal

pub returns-in_err-commit_in : goal.returns-in_err-commit_in
returns-in_err-commit_in g c = search (rules, commit_left)

pub returns : goal.returns
returns g c =
    let n = c.space_end.result - (c.args.group.start + header_length) in
    let is_n = ap (λ k. k - (c.args.group.start + header_length)) c.space_end.ensures in
    record {
      after = search rules;
      written = λ honest.
          on_ok_weaker c.fill_in.result
          (fill_done c.args.region c.args.group _ c.empty_header-header.result c.size.result c.requires.region.inside c.requires.group c.size.ensures c.empty_header-header.ensures _ _ n (c.in_ok-commit_in.ensures.written honest) is_n)
          (c.fill_in.ensures.written (honest_still c.commit_in.ensures.after.calls.same_honesty honest));
      left = λ honest.
          fill_left c.args.region c.args.group _ c.empty_header-header.result c.size.result c.requires.region.inside c.requires.group c.size.ensures c.empty_header-header.ensures _ _ n (c.in_ok-commit_in.ensures.written honest) is_n
          (same_region_length c.args.region _ _ _ c.requires.region.inside c.commit_in.ensures.after.calls.same_length c.fill_in.ensures.after.calls.same_length)
          (c.fill_in.ensures.left (honest_still c.commit_in.ensures.after.calls.same_honesty honest));
    }
