-- The parts of a board, appended in order.
use Rattle.std.proofs.Common.{◌≡◌, List, [], ◌++◌, append_assoc, refl}
use Rattle.board_findings.specs.declared.finding.BoardFinding.{BoardFinding}
use Rattle.board_findings.specs.declared.finding.Slot.TheVariants as slots
use Rattle.board_findings.specs.BoardFindings.{Board, board_findings, descriptor_part, firmware_table_part, gbb_part, master_header_part, partition_table_part, reset_vector_part, slot_part}

joined : {X : Type 0} (d t v f m g a s none one two three four five six : List X) → none ≡ [] → one ≡ none ++ d → two ≡ one ++ t → three ≡ two ++ (v ++ f ++ m) → four ≡ three ++ g → five ≡ four ++ a → six ≡ five ++ s → six ≡ d ++ t ++ v ++ f ++ m ++ g ++ a ++ s
joined d t v f m g a s none one two three four five six e0 e1 e2 e3 e4 e5 e6 = rw (e6, e5, e4, e3, e2, e1, e0) (simp append_assoc refl)

pub all_gained : (b : Board) (none one two three four five six : List BoardFinding) → none ≡ [] → one ≡ none ++ descriptor_part b → two ≡ one ++ partition_table_part b → three ≡ two ++ (reset_vector_part b ++ firmware_table_part b ++ master_header_part b) → four ≡ three ++ gbb_part b
    → five ≡ four ++ slot_part slots.A b → six ≡ five ++ slot_part slots.B b → six ≡ board_findings b
unfolding board_findings
all_gained b none one two three four five six = joined (descriptor_part b) (partition_table_part b) (reset_vector_part b) (firmware_table_part b) (master_header_part b) (gbb_part b) (slot_part slots.A b) (slot_part slots.B b) none one two three four five six
