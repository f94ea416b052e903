use Rattle.std.proofs.Common.{[], ◌∷◌, ◌++◌, refl, arith, rules}
use lib.Chars.{codes}
use Rattle.byteorder.specs.Endian.{little_bytes}
use Rattle.flash_format.specs.Flashmap.{fmap_head_bytes}
use Rattle.flash_format.proofs.FieldWrites.{put_name_and_number, fmap_head_is_read_back, signature_is_written}
use Rattle.flash_format.proofs.flashmap.FmapHead.write.Goals as goal

pub returns-clause-bytes : goal.returns-clause-bytes
unfolding fmap_head_bytes
returns-clause-bytes c =
    let h = c.args.self.now in
    put_name_and_number _ (codes "__FMAP__" ++ (h.major ∷ h.minor ∷ []) ++ little_bytes 8 h.base ++ little_bytes 4 h.size) _ _ h.name (little_bytes 2 h.nareas) _ 22
    (search rules) c.copy_from_slice-2.ensures.after c.write_u16.ensures refl (search rules)

pub returns-clause-signature : goal.returns-clause-signature
returns-clause-signature c = signature_is_written _ c.args.self.now (returns-clause-bytes c)

pub returns-clause-read_back : goal.returns-clause-read_back
returns-clause-read_back c = fmap_head_is_read_back _ c.args.self.now (returns-clause-bytes c) (omega arith) (omega arith) (omega arith) (search rules)
