use Rattle.std.proofs.Common.{◌≡◌, ◌++◌, drop}
use Rattle.std.specs.List.{flat_map}
use Rattle.flash_format.specs.Flashmap.{area_bytes}
use Rattle.fmd_lang.specs.Table.{table_bytes}
use Rattle.fmd_lang.proofs.table.encode.Given as goal

abbrev pub invariant-loop-area : goal.invariant-loop-area
invariant-loop-area l = l.bytes.items ++ flat_map area_bytes (drop l.area-index l.area-items) ≡ table_bytes l.table
