use Rattle.std.proofs.Common.{◌∙◌, length}
use Rattle.std.proofs.lemmas.List.{take-replicate}
use Rattle.std.proofs.lemmas.Slice.Eq.{slice_eq-Decides}
use Rattle.std.proofs.lemmas.Bool.Decides.{Decides-eqb}
use Rattle.flash_store.proofs.erase_filter.is_erased.Goals as goal

pub returns : goal.returns
returns c = λ same. (slice_eq-Decides Decides-eqb _ _ _ c.eq.ensures).0 same ∙ take-replicate (length c.args.bytes.now) 65536 255 c.requires
