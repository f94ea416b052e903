-- Replacement of neighbouring cells.
use Rattle.std.specs.List.{concat}
use Rattle.std.specs.Prelude.{◌≡◌, ℕ, ◌+◌, true, List, ◌++◌, length, take, drop, All}
use Rattle.flash_format.specs.Head.{head_of, is_free}
use Rattle.flash_format.specs.Cut.{End, IsCut}

abbrev pub AllFree : List (List ℕ) → Type 0
AllFree cells = All (λ c. is_free (head_of c) ≡ true) cells

-- neighbouring cells from start to end
pub record CellsBetween (x : List ℕ) (start end : ℕ) : Type 0 where
  pub before : List (List ℕ)
  pub group : List (List ℕ)
  pub after : List (List ℕ)
  pub rest : List ℕ
  pub ending : End
  pub is : IsCut x (before ++ group ++ after) rest ending
  pub start_is : length (concat before) ≡ start
  pub end_is : start + length (concat group) ≡ end

-- start to end replaced
abbrev pub splice : List ℕ → ℕ → ℕ → List ℕ → List ℕ
splice x start end new = take start x ++ (new ++ drop end x)
