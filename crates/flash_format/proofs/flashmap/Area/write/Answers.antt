use Rattle.std.proofs.Common.{◌++◌, refl, arith, rules}
use Rattle.byteorder.specs.Endian.{little_bytes}
use Rattle.flash_format.specs.Flashmap.{area_bytes}
use Rattle.flash_format.proofs.FieldWrites.{put_name_and_number, area_is_read_back}
use Rattle.flash_format.proofs.flashmap.Area.write.Goals as goal

pub returns-clause-bytes : goal.returns-clause-bytes
unfolding area_bytes
returns-clause-bytes c =
    let a = c.args.self.now in
    put_name_and_number _ (little_bytes 4 a.offset ++ little_bytes 4 a.size) _ _ a.name (little_bytes 2 a.flags) _ 8
    (search rules) c.copy_from_slice.ensures.after c.write_u16.ensures refl (search rules)

pub returns-clause-read_back : goal.returns-clause-read_back
returns-clause-read_back c = area_is_read_back _ c.args.self.now (returns-clause-bytes c) (omega arith) (omega arith) (omega arith) (search rules)
