use Rattle.fmd_lang.proofs.RowLemmas.{computed-places, valid-places}
use Rattle.fmd_lang.proofs.laws.laid_sections_have_no_fault.Goals as goal

pub returns : goal.returns
returns c = λ parent row places. (λ (clear, are). computed-places parent row places clear are, valid-places parent row places)
