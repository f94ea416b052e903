-- A group is the first component with the name and all adjacent free cells.
use Rattle.std.proofs.Common.{◌≡◌, ℕ, ◌+◌, ◌%◌, List, [], ◌∷◌, ◌++◌, length, sym, ◌∙◌, ap, subst, append_assoc, length-append, inl, inr, ◌<◌, refl, arith, All, Contains, Option, Some, None, true}
use Rattle.std.specs.List.{concat, last_or, slice_get}
use Rattle.std.specs.Prelude.{IfSome, MatchOption, ◌↔◌}
use Rattle.std.proofs.lemmas.List.{append-nil, drop_at, take_at}
use Rattle.flash_format.specs.Cut.{cut, IsCut}
use Rattle.flash_format.specs.Splices.{CellsBetween}
use Rattle.flash_format.proofs.CutLaws.{cut_exists}
use Rattle.flash_format.proofs.Splices.{concat-append}
use Rattle.cbfs_edit.specs.declared.group.CellRange.{CellRange}
use Rattle.std.specs.Str.{bytes_eq}
use Rattle.std.proofs.lemmas.Bool.{both_ways, cases_Bool}
use Rattle.std.proofs.lemmas.List.Elements.{All-nil, All-cons, All-push, All-append, All-weaker, All-head, All-tail, All-contains, All-drop, All-take, Contains-append_right}
use Rattle.flash_format.specs.Head.{head_of, is_free}
use Rattle.flash_format.specs.Components.{cell_name}
use Rattle.cbfs_edit.specs.Removals.{group_from, row_end, IsComponent, IsNot, IsRowBetweenComponents, IsGroupOf}

abbrev pub IsFree : List ℕ → Type 0
IsFree c = is_free (head_of c) ≡ true

-- the last cell, if any, is a component
abbrev pub EndsWithComponent : List (List ℕ) → Type 0
EndsWithComponent cells = IfSome (last_or None cells) IsComponent

-- the first cell, if any, is a component
abbrev pub BeginsWithComponent : List (List ℕ) → Type 0
BeginsWithComponent cells = IfSome (slice_get cells 0) IsComponent

-- ---- a range among the cells of its region

abbrev pub between : (x : List ℕ) (row : List (List ℕ)) (range : CellRange) → length x % 64 ≡ 0 → IsRowBetweenComponents (cut x).cells row range → CellsBetween x range.start range.end
between x row range aligned r =
    let all = cut_exists x aligned in
    record {
      before = r.before;
      group = row;
      after = r.after;
      rest = all.0;
      ending = (cut x).end;
      is = subst (λ (cells : List (List ℕ)). IsCut x cells all.0 (cut x).end) (r.whole ∙ sym (append_assoc r.before row r.after)) all.1;
      start_is = r.start_is;
      end_is = r.end_is;
    }

length-group : (row : List (List ℕ)) (c : List ℕ) (more : List (List ℕ)) → length (concat (row ++ c ∷ more)) ≡ length (concat row) + length c + length (concat more)
length-group row c more = omega (arith, ap length (concat-append row (c ∷ more)), length-append (concat row) (c ++ concat more), length-append c (concat more))

pub length-concat-push : (row : List (List ℕ)) (c : List ℕ) → length (concat (row ++ c ∷ [])) ≡ length (concat row) + length c
length-concat-push row c = ap length (concat-append row (c ∷ [])) ∙ length-append (concat row) (c ++ []) ∙ ap (λ (l : List ℕ). length (concat row) + length l) (append-nil c)

pub length-placed : (done row : List (List ℕ)) (c : List ℕ) → length (concat ((done ++ row) ++ c ∷ [])) ≡ length (concat done) + length (concat row) + length c
length-placed done row c = omega (arith, length-concat-push (done ++ row) c, ap length (concat-append done row), length-append (concat done) (concat row))

-- ---- the result of a removal is a group

pub ends_push : (cells : List (List ℕ)) (c : List ℕ) → IsComponent c → EndsWithComponent (cells ++ c ∷ [])
ends_push [] c is = is
ends_push (d ∷ []) c is = is
ends_push (d ∷ (e ∷ cells)) c is = ends_push (e ∷ cells) c is

pub ends_after : (c : List ℕ) (cells : List (List ℕ)) → EndsWithComponent (c ∷ cells) → EndsWithComponent cells
ends_after c [] ends = tt
ends_after c (d ∷ cells) ends = ends

pub not_alone : (c : List ℕ) (cells : List (List ℕ)) → IsFree c → EndsWithComponent (c ∷ cells) → cells ≡ [] → ⊥
not_alone c [] free ends none = both_ways (is_free (head_of c)) ends free
not_alone c (d ∷ cells) free ends none = absurd cc

-- free cells change only the offset
pub row_place : (at : ℕ) (c : List ℕ) (row : List (List ℕ)) → at + length c + length (concat row) ≡ at + length (concat (c ∷ row))
row_place at c row = omega (arith, length-append c (concat row))

over_end : (at : ℕ) (row cells : List (List ℕ)) → All IsFree row → row_end at (row ++ cells) ≡ row_end (at + length (concat row)) cells
unfolding row_end
over_end at [] cells free = ap (λ n. row_end n cells) (let e : at ≡ at + 0 = omega arith in e)
over_end at (c ∷ row) cells free = rw (All-head IsFree c row free)
    (over_end (at + length c) row cells (All-tail IsFree c row free) ∙ ap (λ n. row_end n cells) (row_place at c row))

over_free : (name : List ℕ) (start at : ℕ) (row cells : List (List ℕ)) → All IsFree row → group_from name start at (row ++ cells) ≡ group_from name start (at + length (concat row)) cells
unfolding group_from
over_free name start at [] cells free = ap (λ n. group_from name start n cells) (let e : at ≡ at + 0 = omega arith in e)
over_free name start at (c ∷ row) cells free = rw (All-head IsFree c row free)
    (over_free name start (at + length c) row cells (All-tail IsFree c row free) ∙ ap (λ n. group_from name start n cells) (row_place at c row))

-- free cells before a component or the end
row_ends : (at : ℕ) (row after : List (List ℕ)) → All IsFree row → BeginsWithComponent after → row_end at (row ++ after) ≡ at + length (concat row)
unfolding row_end
row_ends at row [] free begins = over_end at row [] free
row_ends at row (c ∷ after) free begins = over_end at row (c ∷ after) free ∙ rw begins refl

-- the leading free cells, then a component
record FreeRow (cells : List (List ℕ)) : Type 0 where
  row : List (List ℕ)
  others : List (List ℕ)
  whole : cells ≡ row ++ others
  free : All IsFree row
  no_more : BeginsWithComponent others

free_row : (cells : List (List ℕ)) → FreeRow cells
free_row [] = record { row = []; others = []; whole = refl; free = All-nil IsFree; no_more = tt }
free_row (c ∷ cells) =
    let later : FreeRow cells = free_row cells in
    elim (cases_Bool (is_free (head_of c))) [
      | inl e ↦ record {
        row = c ∷ later.row;
        others = later.others;
        whole = ap (λ (l : List (List ℕ)). c ∷ l) later.whole;
        free = All-cons IsFree c later.row e later.free;
        no_more = later.no_more;
      }
      | inr e ↦ record { row = []; others = c ∷ cells; whole = refl; free = All-nil IsFree; no_more = e }
    ]

free_is_not : (name c : List ℕ) → IsFree c → IsNot name c
free_is_not name c free other = absurd (both_ways (is_free (head_of c)) other free)

some-inj : (a b : CellRange) → Some a ≡ Some b → a ≡ b
some-inj a b is = cc

-- the remaining cells, after others and free cells
exact : (name : List ℕ) (start at : ℕ) (done row cells : List (List ℕ)) (group : CellRange) → All (IsNot name) done → EndsWithComponent done → All IsFree row
    → length (concat done) ≡ start → start + length (concat row) ≡ at → group_from name start at cells ≡ Some group → IsGroupOf name (done ++ (row ++ cells)) group
unfolding group_from
exact name start at done row [] group none ends free begun is found = absurd cc
exact name start at done row (c ∷ cells) group none ends free begun is found =
    let next = at + length c in
    let moved : done ++ ((row ++ c ∷ []) ++ cells) ≡ done ++ (row ++ c ∷ cells) = ap (λ (l : List (List ℕ)). done ++ l) (append_assoc row (c ∷ []) cells) in
    let passed : ((done ++ row) ++ c ∷ []) ++ ([] ++ cells) ≡ done ++ (row ++ c ∷ cells) = append_assoc (done ++ row) (c ∷ []) cells ∙ append_assoc done row (c ∷ cells) in
    elim (cases_Bool (is_free (head_of c))) [
      | inl f ↦ subst (λ (l : List (List ℕ)). IsGroupOf name l group) moved (exact name start next done (row ++ c ∷ []) cells group none ends (All-push IsFree row c free f) begun (omega (arith, length-concat-push row c)) (rw f at found))
      | inr used ↦ elim (cases_Bool (bytes_eq (cell_name c) name)) [
        | inl named ↦
            let r : FreeRow cells = free_row cells in
            let ends_there = ap (row_end next) r.whole ∙ row_ends next r.row r.others r.free r.no_more in
            subst (λ (g : CellRange). IsGroupOf name (done ++ (row ++ c ∷ cells)) g) (some-inj _ group (rw (used, named) at found)) (record {
              range = record {
                before = done;
                after = r.others;
                whole = ap (λ (l : List (List ℕ)). done ++ (row ++ c ∷ l)) r.whole ∙ ap (λ (l : List (List ℕ)). done ++ l) (sym (append_assoc row (c ∷ r.row) r.others));
                no_more_before = ends;
                no_more_after = r.no_more;
                start_is = begun;
                end_is = omega (arith, is, ends_there, length-group row c r.row);
              };
              row_before = row;
              component = c;
              row_after = r.row;
              is_component = used;
              named = named;
              first = none;
              free = All-append IsFree row r.row free r.free;
            })
        | inr other ↦
            let not : All (IsNot name) ((done ++ row) ++ c ∷ []) = All-push (IsNot name) (done ++ row) c (All-append (IsNot name) done row none (All-weaker IsFree (IsNot name) (free_is_not name) row free)) (λ u. other) in
            subst (λ (l : List (List ℕ)). IsGroupOf name l group) passed (exact name next next ((done ++ row) ++ c ∷ []) [] cells group not (ends_push (done ++ row) c used) (All-nil IsFree) (omega (arith, length-placed done row c)) (omega arith) (rw (used, other) at found))
      ]
    ]

pub group_exact : (x name : List ℕ) (group : CellRange) → group_from name 0 0 (cut x).cells ≡ Some group → IsGroupOf name (cut x).cells group
group_exact x name group found = exact name 0 0 [] [] (cut x).cells group (All-nil (IsNot name)) tt (All-nil IsFree) refl refl found

-- without a group, no component has the name
none_left : (name : List ℕ) (start at : ℕ) (cells : List (List ℕ)) → group_from name start at cells ≡ None → All (IsNot name) cells
unfolding group_from
none_left name start at [] none = All-nil (IsNot name)
none_left name start at (c ∷ cells) none =
    let next = at + length c in
    elim (cases_Bool (is_free (head_of c))) [
      | inl f ↦ All-cons (IsNot name) c cells (free_is_not name c f) (none_left name start next cells (rw f at none))
      | inr used ↦ elim (cases_Bool (bytes_eq (cell_name c) name)) [
        | inl named ↦ absurd (let found = rw (used, named) at none in cc)
        | inr other ↦ All-cons (IsNot name) c cells (λ u. other) (none_left name next next cells (rw (used, other) at none))
      ]
    ]

pub group_none : (x name : List ℕ) → group_from name 0 0 (cut x).cells ≡ None → All (IsNot name) (cut x).cells
group_none x name none = none_left name 0 0 (cut x).cells none

-- a group's free cells, before and after its component
pub free_parts : (row more : List (List ℕ)) → All IsFree (row ++ more) → All IsFree row × All IsFree more
free_parts row more free = (subst (All IsFree) (take_at row more (length row) refl) (All-take IsFree (length row) (row ++ more) free), subst (All IsFree) (drop_at row more (length row) refl) (All-drop IsFree (length row) (row ++ more) free))

-- a group's cells, and its end
pub whole_of : (name : List ℕ) (cells : List (List ℕ)) (group : CellRange) (g : IsGroupOf name cells group) → cells ≡ g.range.before ++ (g.row_before ++ (g.component ∷ (g.row_after ++ g.range.after)))
whole_of name cells group g = g.range.whole ∙ ap (λ (l : List (List ℕ)). g.range.before ++ l) (append_assoc g.row_before (g.component ∷ g.row_after) g.range.after)

pub end_of : (name : List ℕ) (cells : List (List ℕ)) (group : CellRange) (g : IsGroupOf name cells group) → group.start + length (concat g.row_before) + length g.component + length (concat g.row_after) ≡ group.end
end_of name cells group g = omega (arith, g.range.end_is, length-group g.row_before g.component g.row_after)

component_some : (c : List ℕ) → IsComponent c → 0 < length c
unfolding head_of
component_some [] is = absurd cc
component_some (b ∷ c) is = omega arith

pub group_some : (x name : List ℕ) (group : CellRange) → IsGroupOf name (cut x).cells group → group.start < group.end
group_some x name group g = omega (arith, end_of name (cut x).cells group g, component_some g.component g.is_component)

-- ---- each group is the result of a removal

-- cells without the name, the last a component
over_others : (name : List ℕ) (start at : ℕ) (before cells : List (List ℕ)) → (before ≡ [] → start ≡ at) → EndsWithComponent before → All (IsNot name) before
    → group_from name start at (before ++ cells) ≡ group_from name (at + length (concat before)) (at + length (concat before)) cells
unfolding group_from
over_others name start at [] cells fresh ends others =
    ap (λ n. group_from name n at cells) (fresh refl) ∙ ap (λ n. group_from name n n cells) (let e : at ≡ at + 0 = omega arith in e)
over_others name start at (c ∷ before) cells fresh ends others =
    let next : ℕ = at + length c in
    let place : next + length (concat before) ≡ at + length (concat (c ∷ before)) = omega (arith, length-append c (concat before)) in
    let rest : (s : ℕ) → (before ≡ [] → s ≡ next) → group_from name s next (before ++ cells) ≡ group_from name (at + length (concat (c ∷ before))) (at + length (concat (c ∷ before))) cells =
    λ s fresh_next. over_others name s next before cells fresh_next (ends_after c before ends) (All-tail (IsNot name) c before others) ∙ ap (λ n. group_from name n n cells) place in
    elim (cases_Bool (is_free (head_of c))) [
      | inl e ↦ rw e (rest start (λ none. absurd (not_alone c before e ends none)))
      | inr e ↦ rw (e, All-head (IsNot name) c before others e) (rest next (λ none. refl))
    ]

one_group : (x name : List ℕ) (group : CellRange) → IsGroupOf name (cut x).cells group → group_from name 0 0 (cut x).cells ≡ Some group
unfolding group_from
one_group x name group is =
    let behind : List (List ℕ) = is.row_after ++ is.range.after in
    let first : 0 + length (concat is.range.before) ≡ group.start = omega (arith, is.range.start_is) in
    let next = group.start + length (concat is.row_before) + length is.component in
    let last : row_end next behind ≡ group.end = row_ends next is.row_after is.range.after (free_parts is.row_before is.row_after is.free).1 is.range.no_more_after ∙ end_of name (cut x).cells group is in
    let step : group_from name group.start (group.start + length (concat is.row_before)) (is.component ∷ behind) ≡ Some group = rw (is.is_component, is.named, last) refl in
    ap (λ (cells : List (List ℕ)). group_from name 0 0 cells) (whole_of name (cut x).cells group is)
    ∙ over_others name 0 0 is.range.before (is.row_before ++ (is.component ∷ behind)) (λ none. refl) is.range.no_more_before is.first
    ∙ ap (λ n. group_from name n n (is.row_before ++ (is.component ∷ behind))) first
    ∙ over_free name group.start group.start is.row_before (is.component ∷ behind) (free_parts is.row_before is.row_after is.free).0
    ∙ step

-- no component has the name
no_group : (x name : List ℕ) (found : Option CellRange) → group_from name 0 0 (cut x).cells ≡ found → All (IsNot name) (cut x).cells → None ≡ found
no_group x name None is none = refl
no_group x name (Some group) is none =
    let g = group_exact x name group is in
    let behind : List (List ℕ) = g.component ∷ (g.row_after ++ g.range.after) in
    let here : Contains (cut x).cells g.component = subst (λ (l : List (List ℕ)). Contains l g.component) (sym (whole_of name (cut x).cells group g)) (Contains-append_right g.range.before (g.row_before ++ behind) g.component (Contains-append_right g.row_before behind g.component (0, omega arith, refl))) in
    absurd (both_ways (bytes_eq (cell_name g.component) name) (All-contains (IsNot name) (cut x).cells g.component none here g.is_component) g.named)

pub groups_exact : (x name : List ℕ) (found : Option CellRange) → MatchOption found (All (IsNot name) (cut x).cells) (IsGroupOf name (cut x).cells) ↔ (found ≡ group_from name 0 0 (cut x).cells)
groups_exact x name None = (no_group x name (group_from name 0 0 (cut x).cells) refl, λ none. group_none x name (sym none))
groups_exact x name (Some group) = (λ is. sym (one_group x name group is), λ same. group_exact x name group (sym same))
