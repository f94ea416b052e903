-- Marks of shadowed components.
use Rattle.std.proofs.Common.{arith, ◌≡◌, ◌∙◌, ℕ, ◌+◌, ◌≤◌, ◌<◌, get_or, Bool, true, false, not, cond, List, [], ◌∷◌, ◌++◌, length, drop, refl, sym, ap, subst, append_assoc, append-nil, length-append}
use Rattle.std.specs.Borrow.{Bor}
use Rattle.std.proofs.Math.ListN.{set}
use Rattle.std.specs.List.{cons_option, filter_map, fold, list_any, slice_get}
use Rattle.std.specs.Prelude.{Option, None, is_some}
use Rattle.std.specs.Str.{bytes_eq}
use Rattle.std.specs.HashSet.{HashSet, Updates}
use Rattle.std.specs.Cmp.Lexicographic.{nat_list_eq_equiv}
use Rattle.std.proofs.lemmas.Grind.{common_steps, fold-append}
use Rattle.std.proofs.lemmas.List.{drop_all}
use Rattle.check_findings.proofs.RegionLemmas.PartNames.{all_marked}
use Rattle.check_findings.specs.RegionFindings.{content_named, first_content, marked}
use Rattle.check_findings.specs.declared.region.finding.Content.{Content}
use Rattle.check_findings.specs.declared.region.finding.RegionFinding.{RegionFinding}
use Rattle.check_findings.specs.declared.region.finding.RegionFinding.TheVariants.{Component, NotCbfs}
use Rattle.std.specs.Prelude.{slice_index_or, slice_set}

-- with a mark
abbrev pub shadowed : RegionFinding → RegionFinding
shadowed (Component at name is content) = Component at name true content
shadowed other = other

-- the component at this index is marked
abbrev pub mark_at : List RegionFinding → ℕ → List RegionFinding
mark_at all i = slice_set all i (shadowed (slice_index_or all i NotCbfs))

abbrev pub Key : Type 0
Key = Bor (List ℕ)

-- the mark of the finding at an index, and of none
pub marked_here : (xs : List RegionFinding) (i : ℕ) (d : RegionFinding) → i < length xs → d ≡ get_or xs i d → set xs i (shadowed d) ≡ mark_at xs i
marked_here xs i d lt is = grind (arith, common_steps)

pub same_shadowed : (f : RegionFinding) → ((at : ℕ) (name : List ℕ) (is : Bool) (content : Content) → f ≡ Component at name is content → ⊥) → shadowed f ≡ f
same_shadowed (Component at name is content) not = absurd (not at name is content refl)
same_shadowed other not = refl

pub marked_beyond : (xs : List RegionFinding) (i : ℕ) → length xs ≤ i → xs ≡ mark_at xs i
marked_beyond xs i over = grind (arith, common_steps)

-- the keys are the names of the earlier components, and `done` is these findings with their marks
pub record Marking (keys : List Key) (all : List RegionFinding) (indices : List ℕ) (i : ℕ) : Type 0 where
  pub earlier : List RegionFinding
  pub done : List RegionFinding
  pub names : (q : Key) → list_any (λ k. bytes_eq q.now k.now) keys ≡ is_some (first_content q.now earlier)
  pub count : length done ≡ i
  pub so_far : fold mark_at all indices ≡ done ++ drop i all
  pub rest : all_marked [] all ≡ done ++ all_marked earlier (drop i all)

pub marking_start : (all : List RegionFinding) → Marking [] all [] 0
marking_start all = record { earlier = []; done = []; names = λ q. refl; count = refl; so_far = refl; rest = refl }

pub marking_end : {keys : List Key} {all : List RegionFinding} {indices : List ℕ} {i : ℕ} → Marking keys all indices i → length all ≤ i → fold mark_at all indices ≡ all_marked [] all
unfolding all_marked
marking_end {all} {i} m over =
    let none = drop_all i all over in
    m.so_far ∙ ap (λ (l : List RegionFinding). m.done ++ l) none ∙ sym (m.rest ∙ ap (λ (l : List RegionFinding). m.done ++ all_marked m.earlier l) none)

mark_there : (done : List RegionFinding) (f : RegionFinding) (later : List RegionFinding) → mark_at (done ++ f ∷ later) (length done) ≡ done ++ shadowed f ∷ later
mark_there [] f later = refl
mark_there (d ∷ done) f later = ap (λ (l : List RegionFinding). d ∷ l) (mark_there done f later)

module _ (keys now : List Key) (all : List RegionFinding) (indices : List ℕ) (i : ℕ) (f : RegionFinding) (m : Marking keys all indices i) (here : drop i all ≡ f ∷ drop (i + 1) all) where
  with_mark : (b : Bool) → fold mark_at all (indices ++ cond b (i ∷ []) []) ≡ m.done ++ cond b (shadowed f) f ∷ drop (i + 1) all
  with_mark true =
      fold-append mark_at all indices (i ∷ []) ∙ ap (λ (l : List RegionFinding). mark_at l i) (m.so_far ∙ ap (λ (l : List RegionFinding). m.done ++ l) here)
      ∙ subst (λ k. mark_at (m.done ++ f ∷ drop (i + 1) all) k ≡ m.done ++ shadowed f ∷ drop (i + 1) all) m.count (mark_there m.done f _)
  with_mark false = ap (fold mark_at all) (append-nil indices) ∙ m.so_far ∙ ap (λ (l : List RegionFinding). m.done ++ l) here

  more : (b : Bool) → marked m.earlier f ≡ cond b (shadowed f) f → ((q : Key) → list_any (λ k. bytes_eq q.now k.now) now ≡ is_some (first_content q.now (f ∷ m.earlier))) → Marking now all (indices ++ cond b (i ∷ []) []) (i + 1)
  unfolding all_marked
  more b is names =
      let end = marked m.earlier f ∷ [] in
      record {
        earlier = f ∷ m.earlier;
        done = m.done ++ end;
        names = names;
        count = omega (arith, m.count, length-append m.done end);
        so_far = with_mark b ∙ ap (λ g. m.done ++ g ∷ drop (i + 1) all) (sym is) ∙ sym (append_assoc m.done end _);
        rest = m.rest ∙ ap (λ (l : List RegionFinding). m.done ++ all_marked m.earlier l) here ∙ sym (append_assoc m.done end _);
      }

-- another finding than a component
plain : (f : RegionFinding) → ((at : ℕ) (name : List ℕ) (is : Bool) (content : Content) → f ≡ Component at name is content → ⊥) → ((q : List ℕ) → content_named q f ≡ None) × ((earlier : List RegionFinding) → marked earlier f ≡ f)
plain (Component at name is content) not = absurd (not at name is content refl)
plain other not = (λ q. refl, λ earlier. refl)

pub marking_other : (keys : List Key) (all : List RegionFinding) (indices : List ℕ) (i : ℕ) (f : RegionFinding) → Marking keys all indices i → drop i all ≡ f ∷ drop (i + 1) all
    → ((at : ℕ) (name : List ℕ) (is : Bool) (content : Content) → f ≡ Component at name is content → ⊥) → Marking keys all indices (i + 1)
marking_other keys all indices i f m here not =
    let same = plain f not in
    subst (λ l. Marking keys all l (i + 1)) (append-nil indices) (more keys keys all indices i f m here false (same.1 m.earlier) (λ q. m.names q ∙ sym (ap (λ (o : Option Content). is_some (slice_get (cons_option o (filter_map (content_named q.now) m.earlier)) 0)) (same.0 q.now))))

-- a component, whose name was inserted
pub marking_component : {S : Type 0} (old now : HashSet Key S) (all : List RegionFinding) (indices : List ℕ) (i at : ℕ) (x : Key) (is new : Bool) (content : Content) → Marking old.keys all indices i → drop i all ≡ Component at x.now is content ∷ drop (i + 1) all
    → Updates (λ (a b : Key). bytes_eq a.now b.now) old now x true → new ≡ not (list_any (λ k. bytes_eq x.now k.now) old.keys) → Marking now.keys all (indices ++ cond (not new) (i ∷ []) []) (i + 1)
marking_component old now all indices i at x is new content m here updates is_new =
    more old.keys now.keys all indices i _ m here (not new) (grind (arith, common_steps, is_new, m.names x))
    (λ q. updates.0 q ∙ grind (arith, common_steps, m.names q, nat_list_eq_equiv.symm x.now q.now))
