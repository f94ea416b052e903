use Rattle.flash_format.proofs.CutSteps.{cell_span}
use Rattle.flash_format.proofs.EntryLaws.{entry_alike, entry_free}
use Rattle.flash_format.proofs.laws.entries_are_read_alike.Goals as goal

pub returns : goal.returns
returns c = λ x span is.
    let s = cell_span x span is in
    record { positive = s.positive; whole = s.whole; inside = s.inside; alike = λ y. entry_alike x y span is; free = λ y. entry_free x y span is }
