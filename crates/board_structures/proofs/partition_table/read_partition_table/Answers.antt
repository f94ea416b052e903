use Rattle.std.proofs.Common.{◌∙◌, ap, sym}
use Rattle.board_structures.specs.PartitionTables.{table_of_page}
use Rattle.board_structures.proofs.Parts.{page_read}
use Rattle.board_structures.proofs.PartitionTableLemmas.{blank_table, page_state}
use Rattle.board_structures.proofs.partition_table.read_partition_table.Goals as goal

pub returns-then-branch-clause-state : goal.returns-then-branch-clause-state
returns-then-branch-clause-state g c = λ h. blank_table _ (sym (c.in_ok-each_byte_is.ensures.value h) ∙ c.if-branch.true)

pub returns-clause-state : goal.returns-clause-state
returns-clause-state g c = λ h.
    let page = page_read c.args.area c.start.result c.min-n.result _ _ _ c.in_ok-page.page.now c.requires c.in_ok-each_byte_is.ensures.after.read c.start.ensures (rw c.size.ensures at c.min-n.ensures) c.in_ok-page.ensures.read h in
    c.table_of_page.ensures ∙ ap table_of_page page ∙ page_state _ (sym (c.in_ok-each_byte_is.ensures.value h) ∙ c.if-branch.false)
