use Rattle.std.proofs.Common.{◌≡◌}
use Rattle.std.proofs.lemmas.Result.{IfOk-weaker}
use Rattle.fmd_lang.specs.Table.{table_bytes}
use Rattle.fmd_lang.specs.Grammar.{view}
use Rattle.fmap_compiler.specs.Outcome.{Compiles}
use Rattle.fmd_lang.proofs.FaultlessTables.{few_areas}
use Rattle.fmap_compiler.proofs.Compilations.{Refuses-encoded}
use Rattle.fmap_compiler.proofs.compiler.compile.Goals as goal

pub returns-clause-compiled : goal.returns-clause-compiled
returns-clause-compiled c =
    let table = c.in_ok-table.table in
    let is = c.in_ok-tree.ensures in
    let laid = c.in_ok-table.ensures in
    IfOk-weaker c.encode.result (λ b. b.items ≡ table_bytes table) (λ b. Compiles c.args.text.now b.items)
    (λ b bytes. (is.refused, (view c.in_ok-tree.tree, is.tree, laid.refused, (table, laid.table, bytes)))) c.encode.ensures.bytes

pub returns-clause-refused : goal.returns-clause-refused
returns-clause-refused c =
    let laid = c.in_ok-table.ensures in
    Refuses-encoded _ _ c.encode.result (few_areas (view c.in_ok-tree.tree) c.in_ok-table.table laid.refused laid.table) c.encode.ensures.refused
