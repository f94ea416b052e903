-- The findings from COREBOOT: the reset vector, the firmware interface table and the master header.
use Rattle.std.proofs.Common.{◌≡◌, ◌∙◌, ℕ, ◌+◌, Bool, ◌&&◌, List, [], ◌∷◌, ◌++◌, Option, Some, Result, Ok, Err, append_assoc, ap, length, subst, sym}
use Rattle.std.specs.Prelude.{◌==◌, if◌then◌else◌}
use Rattle.std.specs.Global.{Vec}
use Rattle.std.specs.List.{find, list_any}
use Rattle.std.specs.Option.{option_map_or}
use lib.Chars.{codes}
use Rattle.flash_device.specs.Regions.{Range, bytes_in}
use Rattle.check_findings.specs.Lists.{Gains, only_if}
use Rattle.board_structures.specs.FirmwareTables.{firmware_table_in}
use Rattle.board_structures.specs.MasterHeaders.{master_header_in}
use Rattle.board_structures.specs.ResetVectors.{reset_vector_in}
use Rattle.board_findings.specs.declared.components.Placed.{Placed}
use Rattle.board_findings.specs.declared.finding.BoardFinding.{BoardFinding}
use Rattle.board_findings.specs.declared.finding.BoardFinding.TheVariants as found
use Rattle.board_findings.specs.Components.{components_in, is_bootblock_to, is_header, range_named}
use Rattle.board_findings.specs.BoardFindings.{Board, board_range, firmware_table_part, master_header_part, reset_vector_part, table_findings}

abbrev pub is_x86 : Board → Range → Bool → Bool
is_x86 b r ends = r.start + r.size == length b.image && ends

abbrev pub vector_if : Board → Range → Bool → List BoardFinding
vector_if b r ends = only_if (is_x86 b r ends) (found.ResetVector (reset_vector_in b.image))

abbrev pub table_if : Board → Range → Bool → List BoardFinding
table_if b r ends = if is_x86 b r ends then table_findings (firmware_table_in b.image) else []

abbrev pub header_if : Board → Range → Bool → Option Placed → List BoardFinding
header_if b r ends header = option_map_or (λ c. found.MasterHeader (record {
  state = master_header_in r.start c.start (bytes_in r b.image);
  ends_with_bootblock = ends;
}) ∷ []) header []

pub gains_all : {E : Type 0} (b : Board) (r : Range) (n : ℕ) (components : List Placed) (ends : Bool) (header : Option Placed) (first mid next last : Vec BoardFinding) (result : Result (Unit {0}) E)
    → n ≡ length b.image → Some r ≡ range_named n b.areas (codes "COREBOOT") → components ≡ components_in b.image r → ends ≡ list_any (is_bootblock_to r.size) components → header ≡ find is_header components
    → mid.items ≡ first.items ++ vector_if b r ends → next.items ≡ mid.items ++ table_if b r ends → Gains next last result (header_if b r ends header) → Gains first last result (reset_vector_part b ++ firmware_table_part b ++ master_header_part b)
gains_all b r n components ends header first mid next last (Err fault) len is all end_is first_is had table more = tt
gains_all b r n components ends header first mid next last (Ok done) len is all end_is first_is had table more =
    let here : board_range b (codes "COREBOOT") ≡ Some r = sym (subst (λ k. Some r ≡ range_named k b.areas (codes "COREBOOT")) len is) in
    let known = components_in b.image r in
    let ends_known : ends ≡ list_any (is_bootblock_to r.size) known = end_is ∙ ap (λ l. list_any (is_bootblock_to r.size) l) all in
    let header_known : header ≡ find is_header known = first_is ∙ ap (λ l. find is_header l) all in
    let two : next.items ≡ first.items ++ (vector_if b r ends ++ table_if b r ends) = table ∙ ap (λ l. l ++ table_if b r ends) had ∙ append_assoc first.items (vector_if b r ends) (table_if b r ends) in
    let three = more ∙ ap (λ l. l ++ header_if b r ends header) two ∙ append_assoc first.items (vector_if b r ends ++ table_if b r ends) (header_if b r ends header) in
    rw here (subst (λ o. last.items ≡ first.items ++ ((vector_if b r (list_any (is_bootblock_to r.size) known) ++ table_if b r (list_any (is_bootblock_to r.size) known)) ++ header_if b r (list_any (is_bootblock_to r.size) known) o)) header_known
    (subst (λ e. last.items ≡ first.items ++ ((vector_if b r e ++ table_if b r e) ++ header_if b r e header)) ends_known three))
