-- An edit between its first and last commit: an empty entry's header over a group.
use Rattle.std.proofs.Common.{◌≡◌, ◌⊎◌, inl, inr, ℕ, ◌+◌, ◌-◌, ◌≤◌, List, ◌++◌, length, sym, ◌∙◌, ap, arith, refl, ◌%◌, Bool, true, false, cond, take, drop, replicate, Some, None, subst, append_assoc, length-append, length-drop, ◌^◌, ◌<◌}
use Rattle.std.specs.Prelude.{slice_range, ◌==◌, min}
use Rattle.flash_format.specs.Made.{header_length, empty_header, padding}
use Rattle.flash_format.proofs.EmptyEntryLaws.{length-empty_header}
use Rattle.flash_device.specs.Device.{overwritten, SameOutside}
use Rattle.flash_device.proofs.BytesLemmas.{SameOutside-overwritten, SameOutside-trans, SameOutside-wider, overwritten-more_at, length-overwritten, length-slice_range, changed-overwritten, overwritten-front, slice_range_is}
use Rattle.cbfs_edit.specs.Changes.{IsEmptied, IsStopped, SameCells}
use Rattle.cbfs_edit.specs.declared.group.CellRange.{CellRange}
use Rattle.cbfs_edit.proofs.Changes.{again, unchanged, within, is_some-cond}
use Rattle.std.proofs.lemmas.List.{length-replicate, take_all}
use Rattle.std.proofs.lemmas.Bool.{cond_both, eqb-false, eqb-true}
use Rattle.flash_device.specs.Regions.{Range, LiesIn, bytes_in}
use Rattle.flash_device.proofs.DeviceLemmas.{length-bytes_in}
use Rattle.cbfs_edit.specs.Removals.{IsCellRange, last_four, kept_at, removed, space_end}
use Rattle.std.specs.List.{concat}
use Rattle.flash_format.specs.Cut.{cut}
use Rattle.flash_format.specs.Components.{components_from, components}
use Rattle.flash_format.specs.Splices.{CellsBetween, splice}
use Rattle.flash_format.proofs.Splices.{length-concat-cells, group-whole, cells-before, cells-group}
use Rattle.flash_format.proofs.Splices as splices

-- while an empty entry is written
abbrev pub IsOldOrEmptied : CellRange → ℕ → List ℕ → List ℕ → Type 0
IsOldOrEmptied group to x y = (y ≡ x) ⊎ IsEmptied group to x y

-- ---- lengths and offsets

pub same_region_length : (r : Range) (x y z : List ℕ) → LiesIn r x → length y ≡ length x → length z ≡ length y → length (bytes_in r z) ≡ length (bytes_in r y)
same_region_length r x y z lies first second =
    length-bytes_in r z (omega (arith, lies)) ∙ sym (length-bytes_in r y (omega (arith, lies)))

pub space_end-near : (size end : ℕ) → (space_end size end ≤ end) × (end ≤ space_end size end + 4)
space_end-near size end = cond_both (end == size) (end - 4) end (λ n. (n ≤ end) × (end ≤ n + 4)) (λ e. (omega arith, omega arith)) (λ e. (omega arith, omega arith))

pub space_end-below : (size end : ℕ) → end ≤ size → end % 64 ≡ 0 → size % 64 ≡ 0 → space_end size end ≤ size - 4
space_end-below size end inside aligned whole =
    cond_both (end == size) (end - 4) end (λ n. n ≤ size - 4) (λ e. omega (arith, inside)) (λ e. omega (arith, eqb-false end size e, inside, aligned, whole))

-- multiples of 64 within the region
pub group_range : (x : List ℕ) (group : CellRange) → CellsBetween x group.start group.end → group.start < group.end → IsCellRange group (length x)
group_range x group g some =
    let before : length (concat g.before) % 64 ≡ 0 = length-concat-cells g.before (cells-before x group.start group.end g) in
    let inner : length (concat g.group) % 64 ≡ 0 = length-concat-cells g.group (cells-group x group.start group.end g) in
    let whole : length x ≡ length (concat g.before ++ (concat g.group ++ (concat g.after ++ g.rest))) = ap length (group-whole x group.start group.end g) in
    record {
      some = omega (arith, g.start_is, g.end_is, before, inner);
      start_aligned = omega (arith, g.start_is, before);
      end_aligned = omega (arith, g.start_is, g.end_is, before, inner);
      inside = omega (arith, whole, length-append (concat g.before) (concat g.group ++ (concat g.after ++ g.rest)), length-append (concat g.group) (concat g.after ++ g.rest), g.start_is, g.end_is);
    }

-- writes over a group as a splice
pub as_splice : (x : List ℕ) (start end : ℕ) (u : List ℕ) → start + length u ≡ end → overwritten x start u ≡ splice x start end u
as_splice x start end u size = ap (λ n. take start x ++ (u ++ drop n x)) size

-- ---- an empty entry's header over a group, and the later bytes

module _ (x : List ℕ) (group : CellRange) (range : IsCellRange group (length x)) where
  abbrev kept : Bool
  kept = group.end == length x

  abbrev header : List ℕ
  header = empty_header (group.end - group.start) kept

  abbrev bare : List ℕ
  bare = overwritten x group.start header

  abbrev behind : ℕ
  behind = group.start + header_length

  header-length : length header ≡ header_length
  header-length = length-empty_header (group.end - group.start) kept

  bare-length : length bare ≡ length x
  bare-length = length-overwritten x group.start header (omega (arith, header-length, range.some, range.inside))

  module _ (to : ℕ) where
    -- the commit of the header
    pub emptied-commit : IsEmptied group to x bare
    emptied-commit = record { same_length = bare-length; same = unchanged bare behind (to - behind) }

    module _ (y : List ℕ) (is : IsEmptied group to x y) where
      -- a later write
      pub emptied-write : (z : List ℕ) (at n : ℕ) → length z ≡ length y → behind ≤ at → at + n ≤ to → SameOutside at n y z → IsEmptied group to x z
      emptied-write z at n size after before same =
          record { same_length = size ∙ is.same_length; same = again bare y z behind (to - behind) is.same (within y z at n behind to after before same) }

      pub emptied-wider : (later : ℕ) → to ≤ later → IsEmptied group later x y
      emptied-wider later le = record { same_length = is.same_length; same = SameOutside-wider bare y behind (to - behind) (later - behind) (omega arith) is.same }

      pub emptied-outside : behind ≤ to → SameOutside group.start (to - group.start) x y
      emptied-outside order =
          SameOutside-trans x bare y group.start (to - group.start) header_length (to - behind) (omega arith)
          (SameOutside-overwritten x group.start (to - group.start) header (omega (arith, header-length)) (omega (arith, range.some, range.inside))) is.same

      -- a stop of an edit, by its cells; bytes from an offset on remain
      pub emptied-stopped : (done : List ℕ) (last : ℕ) → behind ≤ to → to ≤ group.end → to ≤ last → (components y ≡ components x) ⊎ (components y ≡ components done) → (cut y).end ≡ (cut x).end → IsStopped group last x done y
      emptied-stopped done last order inside later cells ends = record {
        components = cells;
        end = ends;
        outside = SameOutside-wider x y group.start (to - group.start) (min group.end last - group.start) (omega (arith, inside, later)) (emptied-outside order);
      }

  pub old_or-wider : (to later : ℕ) (y : List ℕ) → to ≤ later → IsOldOrEmptied group to x y → IsOldOrEmptied group later x y
  old_or-wider to later y le (inl same) = inl same
  old_or-wider to later y le (inr is) = inr (emptied-wider to y is later le)

  -- ---- a finished removal

  -- the last four bytes remain
  kept_bytes : (n : ℕ) → n ≡ group.end - 4 - (behind) → group.end ≡ length x → overwritten x group.start (header ++ replicate n 0xff) ≡ overwritten x group.start (header ++ padding (group.end - group.start - header_length) (Some (last_four x)))
  kept_bytes n is_n at_end =
      let k = header_length + n in
      let filler : List ℕ = replicate n 0xff in
      let wide : length (header ++ filler) ≡ k = omega (arith, length-append header filler, header-length, length-replicate {A = ℕ} n 0xff) in
      let place : group.start + k ≡ length x - 4 = omega (arith, range.some) in
      let four : 4 - (group.end - group.start - header_length) ≡ 0 = omega (arith, range.some) in
      let space : n ≡ group.end - group.start - header_length - 4 = omega (arith, is_n) in
      let old : slice_range x (group.start + k) (group.start + k + 4) ≡ last_four x =
      slice_range_is x (group.start + k) 4 ∙ ap (λ p. take 4 (drop p x)) place ∙ take_all 4 (last_four x) (omega (arith, length-drop (length x - 4) x)) in
      rw (← space, four) (overwritten-front x group.start k 4 (header ++ filler) wide (omega (arith, place, range.some))
      ∙ ap (λ (l : List ℕ). overwritten x group.start (header ++ filler ++ l)) old
      ∙ ap (λ (l : List ℕ). overwritten x group.start l) (append_assoc header filler (last_four x)))

  as_empty : (n : ℕ) (b : Bool) → kept ≡ b → n ≡ cond b (group.end - 4) group.end - (behind)
      → overwritten x group.start (header ++ replicate n 0xff) ≡ overwritten x group.start (header ++ padding (group.end - group.start - header_length) (cond b (Some (last_four x)) None))
  as_empty n true e is_n = kept_bytes n is_n (eqb-true group.end (length x) e)
  as_empty n false e is_n = let all : n ≡ group.end - group.start - header_length = omega (arith, is_n) in ap (λ p. overwritten x group.start (header ++ replicate p 0xff)) all

  abbrev to : ℕ
  to = space_end (length x) group.end

  abbrev filler : List ℕ
  filler = replicate (to - behind) 0xff

  -- the header, and the filled space
  pub filled : overwritten bare behind filler ≡ removed x group
  filled =
      overwritten-more_at x group.start header_length header filler header-length (omega (arith, range.some, range.inside))
      ∙ as_empty (to - behind) kept refl refl
      ∙ ap (λ b. overwritten x group.start (empty_header (group.end - group.start) b ++ padding (group.end - group.start - header_length) (kept_at x group.end))) (sym (is_some-cond kept (last_four x)))

  pub removed-emptied : IsEmptied group to x (removed x group)
  removed-emptied =
      let near = space_end-near (length x) group.end in
      let long : length filler ≡ to - behind = length-replicate {A = ℕ} (to - behind) 0xff in
      let fits : behind + length filler ≤ length bare = omega (arith, long, bare-length, near, range.some, range.inside) in
      subst (λ (l : List ℕ). IsEmptied group to x l) filled
      (emptied-write to bare (emptied-commit to) (overwritten bare behind filler) behind (to - behind) (length-overwritten bare behind filler fits) (omega arith) (omega (arith, near.1, range.some))
      (SameOutside-overwritten bare behind (to - behind) filler (omega (arith, long)) (omega (arith, fits))))

  pub removed-whole : IsEmptied group group.end x (removed x group)
  removed-whole = emptied-wider to (removed x group) removed-emptied group.end (space_end-near (length x) group.end).0

  -- ---- the cells

  module _ (y : List ℕ) (is : IsEmptied group group.end x y) where
    -- after the header
    pub emptied-bytes : (more : List ℕ) × (header_length + length more ≡ group.end - group.start) × (y ≡ overwritten x group.start (header ++ more))
    emptied-bytes =
        let room : ℕ = group.end - behind in
        let more : List ℕ = slice_range y behind (behind + room) in (
          more,
          omega (arith, length-slice_range y behind room (omega (arith, is.same_length, range.some, range.inside)), range.some),
          changed-overwritten bare y behind room (omega (arith, bare-length, range.some, range.inside)) (is.same_length ∙ sym bare-length) is.same
              ∙ overwritten-more_at x group.start header_length header more header-length (omega (arith, range.some, range.inside)),
        )

    is_splice : y ≡ splice x group.start group.end (header ++ emptied-bytes.0)
    is_splice =
        let has = emptied-bytes in has.2 ∙ as_splice x group.start group.end (header ++ has.0) (omega (arith, length-append header has.0, header-length, has.1, range.some))

    module _ (g : CellsBetween x group.start group.end) (small : length x < 2 ^ 32) where
      pub emptied-components : components y ≡ components_from 0 g.before ++ components_from group.end g.after
      emptied-components =
          ap (λ (l : List ℕ). components l) is_splice
          ∙ splices.emptied-components x group.start group.end g kept emptied-bytes.0 (omega (arith, range.some)) (omega (arith, range.some, range.inside, small)) (omega (arith, emptied-bytes.1, range.some))

      pub emptied-end : (cut y).end ≡ (cut x).end
      emptied-end =
          ap (λ (l : List ℕ). (cut l).end) is_splice
          ∙ splices.emptied-end x group.start group.end g kept emptied-bytes.0 (omega (arith, range.some)) (omega (arith, range.some, range.inside, small)) (omega (arith, emptied-bytes.1, range.some))

  -- the cells equal the cells of the finished removal
  pub emptied-same : (y : List ℕ) → IsEmptied group group.end x y → CellsBetween x group.start group.end → length x < 2 ^ 32 → SameCells y (removed x group)
  emptied-same y is g small = record {
    components = emptied-components y is g small ∙ sym (emptied-components (removed x group) removed-whole g small);
    end = emptied-end y is g small ∙ sym (emptied-end (removed x group) removed-whole g small);
  }

-- in a region of the image
module _ (r : Range) (group : CellRange) (old header : List ℕ) (told : ℕ) (lies : LiesIn r old) (in_region : IsCellRange group r.size) (is_told : told ≡ r.size) (is_header : header ≡ empty_header (group.end - group.start) (group.end == told)) where
  abbrev x : List ℕ
  x = bytes_in r old

  long : length x ≡ r.size
  long = length-bytes_in r old lies

  range : IsCellRange group (length x)
  range = subst (λ n. IsCellRange group n) (sym long) in_region

  a_header : header ≡ empty_header (group.end - group.start) (group.end == length x)
  a_header = is_header ∙ ap (λ n. empty_header (group.end - group.start) (group.end == n)) (is_told ∙ sym long)

  committed : (y : List ℕ) → y ≡ overwritten x group.start header → IsEmptied group (space_end r.size group.end) x y
  committed y is =
      subst (λ (l : List ℕ). IsEmptied group (space_end r.size group.end) x l) (sym (is ∙ ap (λ (h : List ℕ). overwritten x group.start h) a_header)) (emptied-commit x group range (space_end r.size group.end))

  -- a refused commit is complete or absent
  pub commit_left : (y : List ℕ) → (y ≡ x) ⊎ (y ≡ overwritten x group.start header) → IsOldOrEmptied group (space_end r.size group.end) x y
  commit_left y (inl same) = inl same
  commit_left y (inr is) = inr (committed y is)

  module _ (y z : List ℕ) (n : ℕ) (is : y ≡ overwritten x group.start header) (is_n : n ≡ (space_end r.size group.end) - (group.start + header_length)) where
    -- any change of the empty entry's space
    pub fill_left : length z ≡ length y → SameOutside (group.start + header_length) n y z → IsOldOrEmptied group (space_end r.size group.end) x z
    fill_left size same =
        inr (emptied-write x group range (space_end r.size group.end) y (committed y is) z (group.start + header_length) n size (omega arith) (omega (arith, is_n, (space_end-near r.size group.end).1, range.some)) same)

    pub fill_done : z ≡ overwritten y (group.start + header_length) (replicate n 0xff) → z ≡ removed x group
    fill_done at =
        let is_space : n ≡ space_end (length x) group.end - (group.start + header_length) = is_n ∙ ap (λ k. space_end k group.end - (group.start + header_length)) (sym long) in
        at ∙ rw (is, a_header, is_space) (filled x group range)
