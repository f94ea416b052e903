-- The first hash attribute of a component, and its fault.
use Rattle.std.proofs.Common.{◌≡◌, ℕ, ◌+◌, ◌-◌, ◌<◌, ◌≤◌, Bool, cond, List, [], ◌∷◌, ◌++◌, length, take, drop, Option, Some, None, Result, Ok, Err, refl, sym, ap, ◌∙◌, arith}
use Rattle.std.specs.Prelude.{slice_range, nat_lt}
use Rattle.std.specs.Option.{option_map, option_map_or}
use Rattle.std.proofs.lemmas.Bool.{lt-ltb, le-ltb}
use Rattle.std.proofs.lemmas.List.{take-take}
use Rattle.byteorder.specs.Endian.{big_number}
use Rattle.flash_format.specs.declared.attribute.AttrHead.{AttrHead}
use Rattle.flash_format.specs.declared.head.Head.{Head}
use Rattle.flash_format.specs.Head.{be32, head_of, is_free}
use Rattle.flash_format.specs.Entry.{Attribute, data_of, least_len, name_end, HASH}
use Rattle.flash_format.specs.Components.{component_at}
use Rattle.flash_format.proofs.Fronts.{range-take}
use Rattle.cbfs_walk.specs.Cells.{IsComponentIn, PassesChecks, cell_in, content_start}
use Rattle.cbfs_walk.specs.Walks.{StandsIn}
use Rattle.cbfs_walk.specs.AttrWalks.{IsAttrIn}
use Rattle.cbfs_walk.specs.declared.cell.Cell.{Cell}
use Rattle.cbfs_walk.proofs.Parts.{range_is, range-inner, length-range}
use Rattle.cbfs_walk.proofs.Checks.{checks_give}
pub use Rattle.cbfs_walk.proofs.Checks.{content_fits}
pub use Rattle.cbfs_walk.proofs.CellNames.{has_field}
use Rattle.cbfs_walk.proofs.CutLaws.{standing, cell_head}
use Rattle.cbfs_walk.proofs.AttributeScans.{data_at}
use Rattle.cbfs_anchor.specs.Metadata.{cell_metadata, component_fault, hash_from, stored_hash, terminated}
use Rattle.cbfs_anchor.specs.declared.algorithm.Algorithm.{Algorithm}
use Rattle.cbfs_anchor.specs.declared.demand.Demand.{Demand}
use Rattle.cbfs_anchor.specs.declared.demand.StoredHash.{StoredHash}
use Rattle.cbfs_anchor.specs.declared.fault.SealFault.{SealFault}

abbrev Message : Type 0
Message = Result (List ℕ) SealFault

hash_len : (h : AttrHead) → h.tag ≡ HASH → least_len h.tag ≡ 12
hash_len h e = rw e refl

-- an attribute found in a region
pub hash_read : (x : List ℕ) (c : Cell) (found : ℕ × AttrHead) (number : ℕ) (all : List Attribute) → content_start c ≤ length x → (found.1.tag ≡ HASH) × IsAttrIn found.0 (content_start c) found.1
    → number ≡ be32 (found.0 + 8) x → Some (data_at x found) ≡ data_of HASH all → Some (record { number = number; len = found.1.len - 12 }) ≡ stored_hash all
hash_read x c found number all inside is value told =
    let long : 12 ≤ found.1.len = omega (arith, is.1.least, hash_len found.1 is.0) in
    let first : be32 0 (data_at x found) ≡ be32 (found.0 + 8) x =
    ap (big_number 4) (
    range-inner x (found.0 + 8) (found.0 + found.1.len) 0 4 (omega (arith, long))
    ∙ ap (λ k. slice_range x k (found.0 + 8 + 4)) {x = found.0 + 8 + 0} {y = found.0 + 8} (omega arith)
    ) in
    let rest : length (data_at x found) - 4 ≡ found.1.len - 12 =
    omega (arith, length-range x (found.0 + 8) (found.0 + found.1.len) (omega (arith, is.1.inside, inside)), long) in
    let here : (let s : StoredHash = record { number = number; len = found.1.len - 12 } in s) ≡ hash_from (data_at x found) =
    ap (λ n. let s : StoredHash = record { number = n; len = found.1.len - 12 } in s) (value ∙ sym first)
    ∙ ap (λ n. let s : StoredHash = record { number = be32 0 (data_at x found); len = n } in s) (sym rest) in
    ap (λ (s : StoredHash). Some s) here ∙ ap (option_map hash_from) told

-- the head in a cell's bytes
pub head_here : (x : List ℕ) (size : ℕ) (c : Cell) → PassesChecks size c → StandsIn x c → head_of (cell_in x c) ≡ c.head
head_here x size c checks stands = let k = checks_give (size - c.at) c.head c.span checks in cell_head x c (standing x c stands) k.positive

-- ---- the metadata of a component

-- in the cell, as behind its position
terminated_here : (x : List ℕ) (c : Cell) (end offset : ℕ) → end ≤ offset → offset ≤ c.span → terminated end offset (cell_in x c) ≡ terminated end offset (drop c.at x)
terminated_here x c end offset inner fits =
    let y = drop c.at x in
    let front : take (end - 1) (take c.span y) ≡ take (end - 1) y = take-take (end - 1) c.span y (omega arith) in
    let rest : slice_range (take c.span y) end offset ≡ slice_range y end offset = range-take y c.span end offset fits in
    ap (terminated end offset) (range_is x c.at c.span)
    ∙ ap (λ l. l ++ (0 ∷ []) ++ slice_range (take c.span y) end offset) front
    ∙ ap (λ l. take (end - 1) y ++ (0 ∷ []) ++ l) rest

module _ (demand : Demand) (a : Algorithm) (x : List ℕ) (size : ℕ) (c : Cell) (is : IsComponentIn size c) (stands : StandsIn x c) (none : None ≡ component_fault demand a (component_at c.at (cell_in x c))) where
  abbrev counted : Bool → Message
  counted long = Ok (cond long [] (terminated (name_end c.head) c.head.offset (cell_in x c)))

  counts : cell_metadata demand a c.at (cell_in x c) ≡ counted (nat_lt 256 c.head.offset)
  counts =
      let its = component_fault demand a (component_at c.at (cell_in x c)) in
      let by = λ (h : Head) (o : Option SealFault). cond (is_free h) (let m : Message = Ok [] in m) (option_map_or (λ fault. Err fault) o (Ok (cond (nat_lt 256 h.offset) [] (terminated (name_end h) h.offset (cell_in x c))))) in
      ap (λ (h : Head). by h its) (head_here x size c is.checks stands)
      ∙ ap (λ o. by c.head o) (sym none)
      ∙ ap (λ b. cond b (let m : Message = Ok [] in m) (counted (nat_lt 256 c.head.offset))) is.used

  pub cell_counts : c.head.offset ≤ 256 → cell_metadata demand a c.at (cell_in x c) ≡ Ok (terminated (name_end c.head) c.head.offset (drop c.at x))
  cell_counts short =
      let k = content_fits size c is.checks in
      let f = has_field size c is in
      counts ∙ ap counted (le-ltb 256 c.head.offset short)
      ∙ ap (λ (l : List ℕ). let m : Message = Ok l in m) (terminated_here x c (name_end c.head) c.head.offset f.high (omega (arith, k.in_cell)))

  pub cell_too_long : 256 < c.head.offset → cell_metadata demand a c.at (cell_in x c) ≡ Ok []
  cell_too_long long = counts ∙ ap counted (lt-ltb 256 c.head.offset long)
