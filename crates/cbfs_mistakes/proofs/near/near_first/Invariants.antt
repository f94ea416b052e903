use Rattle.std.proofs.Common.{◌≡◌, ℕ, take, map}
use Rattle.std.specs.Prelude.{filter}
use Rattle.std.specs.Prelude.{not}
use Rattle.std.specs.Global.{Vec}
use Rattle.cbfs_mistakes.specs.Near.{is_near}
use Rattle.cbfs_mistakes.proofs.near.near_first.Given as goal

abbrev pub invariant-loop-name : goal.invariant-loop-name
invariant-loop-name l = record {
  near : map (λ (name : Vec ℕ). name.items) l.near.items
      ≡ filter (is_near l.word) (map (λ (name : Vec ℕ). name.items) (take l.name-index l.names));
  others : map (λ (name : Vec ℕ). name.items) l.others.items
      ≡ filter (λ name. not (is_near l.word name)) (map (λ (name : Vec ℕ). name.items) (take l.name-index l.names));
}
