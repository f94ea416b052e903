-- A search finds a written table.
use Rattle.std.proofs.Common.{List, ℕ, sym, subst}
use Rattle.flash_device.specs.Device.{overwritten}
use Rattle.flash_map.specs.Fmap.{FindsMap, NoMapBelow}
use Rattle.flash_map.proofs.WrittenMaps.{maps_found}
use Rattle.fmd_lang.specs.Table.{table_bytes, table_head}
use Rattle.fmd_lang.proofs.TableBytes.{table_read}
use Rattle.fmap_compiler.specs.Outcome.{Compiles}
use Rattle.fmd_lang.specs.Words.{words}
use Rattle.fmd_lang.specs.Grammar.{IsSection, Tree}
use Rattle.fmd_lang.specs.Table.{IsTable}
use Rattle.fmd_lang.specs.declared.table.Table.{Table}
use Rattle.std.specs.Prelude.{◌≤◌, length}

pub compiled_found : (text bytes image : List ℕ) (q : ℕ) → Compiles text bytes → q ≤ length image → let now = overwritten image q bytes in NoMapBelow now q → (tree : Tree) × (table : Table) × IsSection tree (words text) × IsTable tree table × FindsMap (table_head table) table.areas.items now q
compiled_found text bytes image q (faultless, (tree, is_tree, laid, (table, is_table, same))) inside none =
    let read = λ (more : List ℕ). table_read tree text more table faultless is_tree laid is_table in
    let below = subst (λ (l : List ℕ). NoMapBelow (overwritten image q l) q) same none in
    let found = maps_found (table_head table) table.areas.items (table_bytes table) image q read inside below in
    (tree, table, is_tree, is_table, subst (λ (l : List ℕ). FindsMap (table_head table) table.areas.items (overwritten image q l) q) (sym same) found)
