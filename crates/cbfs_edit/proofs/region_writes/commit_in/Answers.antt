use Rattle.std.proofs.Common.{◌+◌, rules, arith}
use Rattle.flash_format.specs.Made.{header_length}
use Rattle.flash_device.proofs.RegionLemmas.{outside_of, written_ok, written_whole}
use Rattle.cbfs_edit.proofs.Changes.{whole-outside}
use Rattle.cbfs_edit.proofs.region_writes.commit_in.Goals as goal

pub returns : goal.returns
returns g c = record {
  after = record {
    calls = search rules;
    outside = λ honest.
        outside_of c.args.region c.args.paged.now.device.content _ (c.start.result + c.args.at) c.args.at header_length (omega arith) c.requires.inside
        (whole-outside _ _ (c.start.result + c.args.at) header_length c.args.bytes.now (search rules) (omega arith) (c.commit.ensures.after.whole honest));
  };
  written = λ honest.
      written_ok c.commit.result c.args.region c.args.paged.now.device.content _ (c.start.result + c.args.at) c.args.at header_length c.args.bytes.now
      c.requires.region.inside (omega arith) (search rules) c.requires.inside (c.commit.ensures.after.written honest);
  left = λ honest.
      written_whole c.args.region c.args.paged.now.device.content _ (c.start.result + c.args.at) c.args.at header_length c.args.bytes.now
      c.requires.region.inside (omega arith) (search rules) c.requires.inside (c.commit.ensures.after.whole honest);
}
