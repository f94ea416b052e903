-- The output and the errors of the compiler.
use Rattle.std.specs.Prelude.{◌≡◌, ℕ, ◌+◌, ◌≤◌, ◌⊎◌, ⊤, List, length, Option}
use Rattle.std.specs.Prelude.{Some, None, Result, Ok, Err, IfSome}
use Rattle.std.specs.Io.KnownBytes.{Appends, Consumes, Keeps}
use Rattle.flash_device.specs.Device.{AppendsPart}
use Rattle.fmd_lang.specs.Words.{words}
use Rattle.fmd_lang.specs.Grammar.{Tree, IsSection}
use Rattle.fmd_lang.specs.Faults.{first_fault, text_limit}
use Rattle.fmd_lang.specs.Table.{layout_fault, IsTable, table_bytes}
use Rattle.fmd_lang.specs.declared.table.Table.{Table}
use Rattle.fmd_lang.specs.declared.fault.FmdFault.{FmdFault}
use Rattle.fmd_lang.specs.declared.fault.FmdFault.TheVariants as faults
use Rattle.fmap_compiler.specs.declared.reader.TextReader.{Ghosts as ReaderOf}
use Rattle.fmap_compiler.specs.declared.refusal.Refusal.{Refusal}
use Rattle.fmap_compiler.specs.declared.refusal.Refusal.TheVariants as refusal

-- the maximum number of bytes read
abbrev pub reading_limit : ℕ
reading_limit = text_limit + 1

-- the bytes are the encoded table of the text
abbrev pub Compiles : List ℕ → List ℕ → Type 0
Compiles text bytes = (first_fault text ≡ None)
    × ((tree : Tree) × IsSection tree (words text) × (layout_fault tree ≡ None)
    × ((table : Table) × IsTable tree table × (bytes ≡ table_bytes table)))

-- the first fault of the text, or else of the layout
abbrev pub Refuses : List ℕ → FmdFault → Type 0
Refuses text fault = (first_fault text ≡ Some fault) ⊎ ((first_fault text ≡ None)
    × ((tree : Tree) × IsSection tree (words text) × (layout_fault tree ≡ Some fault)))

-- the text of a refused descriptor; memory can be missing for each text
abbrev pub IsRefusedText : List ℕ → Refusal → Type 0
IsRefusedText text (refusal.Descriptor fault) = (fault ≡ faults.Memory) ⊎ Refuses text fault
IsRefusedText text other = ⊤

-- ---- readers and writers with known bytes

-- the property P of the table
abbrev pub HasTable : Option (List ℕ) → (List ℕ → Type 0) → Type 0
HasTable text P = IfSome text (λ t. (bytes : List ℕ) × Compiles t bytes × P bytes)

-- The output: the table; after an error nothing, or a proper prefix of the table.
abbrev pub Delivers : (text old new : Option (List ℕ)) → Result (Unit {0}) Refusal → Type 0
Delivers text old new (Ok done) = HasTable text (Appends old new)
Delivers text old new (Err (refusal.Descriptor fault)) =
    ((fault ≡ faults.Memory) ⊎ IfSome text (λ t. Refuses t fault)) × Keeps old new
Delivers text old new (Err refusal.Read) = Keeps old new
Delivers text old new (Err refusal.Output) = HasTable text (AppendsPart old new)

-- the reader advances by at most the reading limit
pub record HasReadText {R : Type 0} (source : ReaderOf R) (old new : R) : Type 0 where
  pub given : source.given new ≤ source.given old + reading_limit
  pub read : (read : List ℕ) × Consumes (source.remaining old) (source.remaining new) read
      × (length read ≤ reading_limit)
  pub faults : source.faults old ≤ source.faults new
