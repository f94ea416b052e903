-- The writes of a component: their result, and the region after a stop.
use Rattle.std.proofs.Common.{◌≡◌, ◌⊎◌, inl, inr, subst, ⊎_elim, ℕ, ◌+◌, ◌-◌, ◌≤◌, true, false, List, [], ◌++◌, length, take, drop, replicate, Option, Some, None, sym, ◌∙◌, ap, arith, rules, append_assoc, length-append, length-drop, take-append-drop, ◌<◌, refl}
use Rattle.std.specs.Prelude.{◌==◌, is_some, max, OnOk, if◌then◌else◌}
use Rattle.std.proofs.lemmas.Result.{on_ok_weaker}
use Rattle.std.proofs.lemmas.Bool.{cases_eq, eq-eqb, ne_eqb, cond_both, eqb-false, eqb-true}
use Rattle.std.proofs.lemmas.List.{append-nil, drop_at, length-replicate, length-take-le, take_rest}
use Rattle.std.proofs.Common.{Result}
use Rattle.flash_format.specs.Head.{round64}
use Rattle.flash_format.specs.Made.{algorithm, header_length, empty_header, empty_entry, padding, hash_len, IsDigest, made_metadata, meta_length}
use Rattle.flash_format.proofs.EmptyEntryLaws.{length-empty_header}
use Rattle.flash_format.proofs.MadeLaws.{KeepsFour, few_bytes, length-padding, hash_as_long, length-metadata}
use Rattle.flash_device.specs.Device.{overwritten, SameOutside}
use Rattle.flash_device.proofs.BytesLemmas.{length-overwritten, drop-overwritten, SameOutside-overwritten, further}
use Rattle.cbfs_edit.specs.declared.place.Place.{Place}
use Rattle.cbfs_edit.specs.Removals.{IsCellRange, last_four, kept_at, removed, space_end}
use Rattle.cbfs_edit.specs.Additions.{NewComponent, added, cell_end, empty_between, metadata_len_of}
use Rattle.cbfs_edit.proofs.Changes.{is_some-cond, keeps, kept-none}
use Rattle.cbfs_edit.proofs.EmptyEntries.{emptied-outside, emptied-wider, emptied-write, removed-emptied, space_end-near}
use Rattle.cbfs_edit.specs.Changes.{IsEmptied}
use Rattle.cbfs_edit.proofs.Lists.{over_part, drop-padding, padding-begins}
use Rattle.flash_format.specs.declared.digest.Digest.{Digest}
use Rattle.cbfs_edit.specs.Places.{LiesInItsRun}
use Rattle.cbfs_edit.specs.declared.place.Wanted.{Wanted}

-- ---- the result of consecutive writes

-- room for the metadata, and for a cell up to `end`
pub record HasRoom (place : Place) (end metadata size : ℕ) : Type 0 where
  pub run : IsCellRange place.run size
  pub start_below : place.run.start ≤ place.header
  pub cell : IsCellRange (record { start = place.header; end = end }) place.run.end
  pub metadata_is : place.header + metadata ≡ place.content
  pub metadata_long : header_length ≤ metadata
  pub content_below : place.content ≤ end

-- the number of metadata bytes in the last commit
abbrev pub held_back : Place → ℕ
held_back place = if place.header == place.run.start then header_length else 0

-- the empty entry after the component, if any
abbrev pub with_bound : List ℕ → ℕ → ℕ → List ℕ
with_bound y end run_end = if end == run_end then y
    else overwritten y end (empty_header (run_end - end) (run_end == length y))

-- the metadata's start, or the header of the empty entry before the component
abbrev pub shown_by : Place → List ℕ → List ℕ
shown_by place metadata = if place.header == place.run.start then take header_length metadata
    else empty_header (place.header - place.run.start) false

-- all writes after the content: the other metadata, the next header, the last commit
abbrev pub with_component : List ℕ → Place → ℕ → List ℕ → List ℕ
with_component y place end metadata = let held = held_back place in
    let described = overwritten y (place.header + held) (drop held metadata) in
    overwritten (with_bound described end place.run.end) place.run.start (shown_by place metadata)

-- the run's start: the last commit, the empty entry before the component, and the other metadata
record HasMetadata (x : List ℕ) (place : Place) (metadata : List ℕ) : Type 0 where
  space : ℕ
  rest_at : place.header + held_back place ≡ place.run.start + header_length + space
  begin_long : length (shown_by place metadata) ≡ header_length
  rest_long : place.run.start + header_length + space + length (drop (held_back place) metadata) ≡ place.content
  whole : shown_by place metadata ++ (replicate space 0xff ++ drop (held_back place) metadata) ≡ empty_between x place.run.start place.header ++ metadata
  room : place.run.start + header_length + space + 4 ≤ place.run.end

module _ (x : List ℕ) (place : Place) (end : ℕ) (metadata : List ℕ) (room : HasRoom place end (length metadata) (length x)) where
  at_start : place.header ≡ place.run.start → HasMetadata x place metadata
  at_start same =
      let here : (place.header == place.run.start) ≡ true = eq-eqb place.header place.run.start same in
      record {
        space = 0;
        rest_at = rw here (omega arith);
        begin_long = rw here (length-take-le header_length metadata room.metadata_long);
        rest_long = rw here (omega (arith, length-drop header_length metadata, room.metadata_is, room.metadata_long));
        whole = rw (here, eq-eqb place.run.start place.header (sym same)) (take-append-drop header_length metadata);
        room = omega (arith, room.run.some);
      }

  later : (place.header ≡ place.run.start → ⊥) → HasMetadata x place metadata
  later other =
      let apart : place.run.start + 64 ≤ place.header = omega (arith, other, room.start_below, room.run.start_aligned, room.cell.start_aligned) in
      let there : (place.header == place.run.start) ≡ false = ne_eqb place.header place.run.start other in
      record {
        space = place.header - place.run.start - header_length;
        rest_at = rw there (omega (arith, apart));
        begin_long = rw there (length-empty_header (place.header - place.run.start) false);
        rest_long = rw there (omega (arith, room.metadata_is, apart));
        whole =
            rw (there, ne_eqb place.run.start place.header (λ q. absurd (omega (arith, q, apart))), kept-none x place.header (omega (arith, room.metadata_is, room.metadata_long, room.content_below, room.cell.inside, room.run.inside)))
            (sym (append_assoc (empty_header (place.header - place.run.start) false) (replicate (place.header - place.run.start - header_length) 0xff) metadata));
        room = omega (arith, apart, room.metadata_is, room.metadata_long, room.content_below, room.cell.inside);
      }

  has_metadata : HasMetadata x place metadata
  has_metadata = ⊎_elim at_start later (cases_eq place.header place.run.start)

  module _ (content : List ℕ) (fits : place.content + length content ≤ end) where
    abbrev d : ℕ
    d = place.content + length content

    abbrev last : Option (List ℕ)
    last = kept_at x place.run.end

    abbrev tail : List ℕ
    tail = padding (place.run.end - d) last

    four : KeepsFour last
    four = keeps x place.run.end (omega (arith, room.run.some, room.run.inside))

    -- the header of the empty entry after the component, if any
    abbrev after : List ℕ
    after = padding (end - d) (kept_at x end) ++ empty_between x end place.run.end

    bound_same : (y : List ℕ) (p : List ℕ) → end ≡ place.run.end → y ≡ overwritten x place.run.start (p ++ tail) → with_bound y end place.run.end ≡ overwritten x place.run.start (p ++ after)
    bound_same y p same is =
        rw (eq-eqb end place.run.end same) (is ∙ ap (λ k. overwritten x place.run.start (p ++ padding (k - d) (kept_at x k))) (sym same) ∙ ap (λ (l : List ℕ). overwritten x place.run.start (p ++ l)) (sym (append-nil (padding (end - d) (kept_at x end)))))

    bound_other : (y : List ℕ) (p : List ℕ) → length p ≡ d - place.run.start → (end ≡ place.run.end → ⊥) → y ≡ overwritten x place.run.start (p ++ tail) → with_bound y end place.run.end ≡ overwritten x place.run.start (p ++ after)
    bound_other y p long other is =
        let apart : end + 64 ≤ place.run.end = omega (arith, other, room.cell.inside, room.cell.end_aligned, room.run.end_aligned) in
        let n = place.run.end - end - header_length in
        let gap : List ℕ = replicate (end - d) 0xff in
        let rest : List ℕ = padding (header_length + n) last in
        let tail_is : tail ≡ gap ++ rest = (let sum : place.run.end - d ≡ (end - d) + (header_length + n) = omega (arith, apart, fits) in ap (λ k. padding k last) sum) ∙ padding-begins (end - d) (header_length + n) last (omega arith) in
        let total : length (p ++ tail) ≡ place.run.end - place.run.start = omega (arith, length-append p tail, length-padding (place.run.end - d) last four, long, fits, apart, room.content_below, room.metadata_is, room.start_below) in
        let same_size : length y ≡ length x = ap length is ∙ length-overwritten x place.run.start (p ++ tail) (omega (arith, total, room.run.some, room.run.inside)) in
        let header : List ℕ = empty_header (place.run.end - end) (place.run.end == length y) in
        let header_long : length header ≡ header_length = length-empty_header (place.run.end - end) (place.run.end == length y) in
        let header_is : header ≡ empty_header (place.run.end - end) (is_some last) =
        ap (λ k. empty_header (place.run.end - end) (place.run.end == k)) same_size ∙ ap (λ b. empty_header (place.run.end - end) b) (sym (is_some-cond (place.run.end == length x) (last_four x))) in
        rw (ne_eqb end place.run.end other, kept-none x end (omega (arith, apart, room.run.inside))) (
        ap (λ (l : List ℕ). overwritten l end header) (is ∙ ap (λ (l : List ℕ). overwritten x place.run.start (p ++ l)) tail_is ∙ ap (λ (l : List ℕ). overwritten x place.run.start l) (sym (append_assoc p gap rest)))
        ∙ over_part x place.run.start (p ++ gap) rest header (padding n last) end (omega (arith, room.run.some, room.run.inside))
        (omega (arith, length-append p gap, length-replicate {A = ℕ} (end - d) 0xff, long, fits, room.content_below, room.metadata_is, room.start_below))
        (omega (arith, header_long, length-padding (header_length + n) last four)) (ap (λ k. drop k rest) header_long ∙ drop-padding header_length n last)
        ∙ ap (λ (l : List ℕ). overwritten x place.run.start ((p ++ gap) ++ (l ++ padding n last))) header_is
        ∙ ap (λ (l : List ℕ). overwritten x place.run.start l) (append_assoc p gap (empty_entry (place.run.end - end) last))
        )

    bound : (y : List ℕ) (p : List ℕ) → length p ≡ d - place.run.start → y ≡ overwritten x place.run.start (p ++ tail) → with_bound y end place.run.end ≡ overwritten x place.run.start (p ++ after)
    bound y p long is = ⊎_elim (λ same. bound_same y p same is) (λ other. bound_other y p long other is) (cases_eq end place.run.end)

    -- all writes
    inserted : with_component (overwritten (removed x place.run) place.content content) place end metadata
        ≡ overwritten x place.run.start (empty_between x place.run.start place.header ++ ((metadata ++ content) ++ after))
    inserted =
        let f = has_metadata in
        let g = f.space in
        let d1 : List ℕ = drop (held_back place) metadata in
        let v = length d1 in
        let b = v + (length content + (place.run.end - d)) in
        let size = place.run.end - place.run.start in
        let header : List ℕ = empty_header size (is_some last) in
        let space : List ℕ = replicate g 0xff in
        let part : List ℕ = take v (padding b last) in
        let rest : List ℕ = padding (length content + (place.run.end - d)) last in
        let begin : List ℕ = shown_by place metadata in
        let sum : size - header_length ≡ g + b = omega (arith, f.rest_long, f.room, fits, room.cell.inside, room.run.some) in
        let pad : padding (size - header_length) last ≡ space ++ (part ++ rest) =
        ap (λ k. padding k last) sum
        ∙ padding-begins g b last (omega (arith, sum, f.room, room.run.some))
        ∙ ap (λ (l : List ℕ). space ++ l) (sym (take-append-drop v (padding b last)) ∙ ap (λ (l : List ℕ). part ++ l) (drop-padding v (length content + (place.run.end - d)) last)) in
        let part_long : length part ≡ v = length-take-le v (padding b last) (omega (arith, length-padding b last four)) in
        let rest_long = length-padding (length content + (place.run.end - d)) last four in
        let header_long : length header ≡ header_length = length-empty_header size (is_some last) in
        let space_long : length space ≡ g = length-replicate {A = ℕ} g 0xff in
        let inside : place.run.start ≤ length x = omega (arith, room.run.some, room.run.inside) in
        let copied : overwritten (removed x place.run) place.content content ≡ overwritten x place.run.start ((header ++ (space ++ part)) ++ (content ++ tail)) =
        ap (λ (l : List ℕ). overwritten l place.content content) (ap (λ (l : List ℕ). overwritten x place.run.start (header ++ l)) pad ∙ ap (λ (l : List ℕ). overwritten x place.run.start l) (simp append_assoc))
        ∙ over_part x place.run.start (header ++ (space ++ part)) rest content tail place.content inside
        (omega (arith, length-append header (space ++ part), length-append space part, header_long, space_long, part_long, f.rest_long)) (omega (arith, rest_long)) (drop-padding (length content) (place.run.end - d) last) in
        let described : overwritten (overwritten (removed x place.run) place.content content) (place.header + held_back place) d1 ≡ overwritten x place.run.start ((header ++ space) ++ (d1 ++ (content ++ tail))) =
        ap (λ (l : List ℕ). overwritten l (place.header + held_back place) d1) (copied ∙ ap (λ (l : List ℕ). overwritten x place.run.start l) (simp append_assoc))
        ∙ over_part x place.run.start (header ++ space) (part ++ (content ++ tail)) d1 (content ++ tail) (place.header + held_back place) inside
        (omega (arith, length-append header space, header_long, space_long, f.rest_at)) (omega (arith, part_long, length-append part (content ++ tail))) (drop_at part (content ++ tail) v part_long) in
        let p : List ℕ = header ++ (space ++ (d1 ++ content)) in
        let p_long : length p ≡ d - place.run.start =
        omega (arith, length-append header (space ++ (d1 ++ content)), length-append space (d1 ++ content), length-append d1 content, header_long, space_long, f.rest_long) in
        let behind : List ℕ = (space ++ (d1 ++ content)) ++ after in
        ap (λ (l : List ℕ). overwritten l place.run.start begin) (bound _ p p_long (described ∙ ap (λ (l : List ℕ). overwritten x place.run.start l) (simp append_assoc)) ∙ ap (λ (l : List ℕ). overwritten x place.run.start l) (append_assoc header (space ++ (d1 ++ content)) after))
        ∙ over_part x place.run.start [] (header ++ behind) begin behind place.run.start inside (omega arith) (omega (arith, f.begin_long, header_long, length-append header behind)) (drop_at header behind (length begin) (header_long ∙ sym f.begin_long))
        ∙ ap (λ (l : List ℕ). overwritten x place.run.start l) (let e1 : begin ++ behind ≡ (begin ++ (space ++ d1)) ++ (content ++ after) = simp append_assoc in e1)
        ∙ ap (λ (l : List ℕ). overwritten x place.run.start (l ++ (content ++ after))) f.whole
        ∙ ap (λ (l : List ℕ). overwritten x place.run.start l) (simp append_assoc)

-- ---- the stages: the empty entry over the run, the content, the metadata with the last commit

pub hash_short : (d : Option Digest) → hash_len d ≤ 76
hash_short None = omega arith
hash_short (Some digest) = omega (arith, few_bytes (algorithm digest))

-- the end of writes after the content: the content, the run's first header, or the run's end
-- without four bytes
finished-last : (z : List ℕ) (place : Place) (end to : ℕ) (metadata : List ℕ) → HasRoom place end (length metadata) (length z) → place.content ≤ to → place.run.end ≤ to + 4 → drop to (with_component z place end metadata) ≡ drop to z
finished-last z place end to metadata room content last =
    let k = has_metadata z place end metadata room in
    let IsAlike : List ℕ → Type 0 = λ l. (drop to l ≡ drop to z) × (length l ≡ length z) in
    let more = λ (l : List ℕ) (at : ℕ) (u : List ℕ) (below : at + length u ≤ to) (inside : at + length u ≤ length z) (is : IsAlike l).
    (let e : IsAlike (overwritten l at u) = (drop-overwritten l at u to below (omega (arith, is.1, inside)) ∙ is.0, length-overwritten l at u (omega (arith, is.1, inside)) ∙ is.1) in e) in
    let rest : List ℕ = drop (held_back place) metadata in
    let f : List ℕ = overwritten z (place.header + held_back place) rest in
    let first = more z (place.header + held_back place) rest (omega (arith, k.rest_at, k.rest_long, content)) (omega (arith, k.rest_at, k.rest_long, room.content_below, room.cell.inside, room.run.inside)) (refl, refl) in
    let header : List ℕ = empty_header (place.run.end - end) (place.run.end == length f) in
    let long : length header ≡ header_length = length-empty_header (place.run.end - end) (place.run.end == length f) in
    let second : IsAlike (with_bound f end place.run.end) =
    cond_both (end == place.run.end) f (overwritten f end header) IsAlike (λ e. first)
    (λ e. let fits : end + header_length ≤ place.run.end - 4 = omega (arith, eqb-false end place.run.end e, room.cell.inside, room.cell.end_aligned, room.run.end_aligned) in
    more f end header (omega (arith, long, fits, last)) (omega (arith, long, fits, room.run.inside)) first) in
    (more (with_bound f end place.run.end) place.run.start (shown_by place metadata) (omega (arith, k.begin_long, room.start_below, room.metadata_is, room.metadata_long, content)) (omega (arith, k.begin_long, room.run.some, room.run.inside)) second).0

-- ---- the writes after the content, in an empty entry over the run

module _ (x : List ℕ) (new : NewComponent) (wanted : Wanted) (place : Place) (size : ℕ) (x_long : length x ≡ size) (fits_in : LiesInItsRun wanted size place) (header : wanted.metadata_len ≡ metadata_len_of new) (content_long : length new.content ≡ wanted.len) (short : length new.name ≤ 127) (digest : IsDigest new.digest) where
  fits : LiesInItsRun wanted (length x) place
  fits = subst (λ n. LiesInItsRun wanted n place) (sym x_long) fits_in

  abbrev gap : ℕ
  gap = place.content - place.header - metadata_len_of new

  abbrev metadata : List ℕ
  metadata = made_metadata new.name new.kind new.digest gap (length new.content)

  -- the end of the writes
  abbrev to : ℕ
  to = max (place.content + length new.content) (space_end (length x) place.run.end)

  near : (space_end (length x) place.run.end ≤ place.run.end) × (place.run.end ≤ space_end (length x) place.run.end + 4)
  near = space_end-near (length x) place.run.end

  pub written_long : length metadata ≡ place.content - place.header
  written_long = length-metadata new.name new.kind new.digest gap (length new.content) ∙ ap (λ n. meta_length (length new.name) n + gap) (hash_as_long new.digest digest) ∙ omega (arith, header, fits.header.room)

  room : HasRoom place (cell_end new place) (length metadata) (length x)
  room = let few = hash_short new.digest in let long = written_long in let there = fits in search rules

  held : (place.run.start + header_length ≤ place.header + held_back place) × (held_back place ≤ header_length)
  held =
      cond_both (place.header == place.run.start) header_length 0 (λ k. (place.run.start + header_length ≤ place.header + k) × (k ≤ header_length))
      (λ e. (omega (arith, eqb-true place.header place.run.start e), omega arith))
      (λ e. (omega (arith, eqb-false place.header place.run.start e, room.start_below, room.run.start_aligned, room.cell.start_aligned), omega arith))

  -- the content after the empty entry
  pub with_content : (y z : List ℕ) → length z ≡ length y → y ≡ removed x place.run → SameOutside place.content (length new.content) y z → IsEmptied place.run to x z
  with_content y z long emptied torn =
      let empty = subst (λ (l : List ℕ). IsEmptied place.run (space_end (length x) place.run.end) x l) (sym emptied) (removed-emptied x place.run fits.run) in
      emptied-write x place.run fits.run to y (emptied-wider x place.run fits.run (space_end (length x) place.run.end) y empty to (omega arith)) z place.content (length new.content) long (omega (arith, room.metadata_is, room.metadata_long, room.start_below)) (omega arith) torn

  module _ (y : List ℕ) (is : y ≡ overwritten (removed x place.run) place.content new.content) where
    content_there : IsEmptied place.run to x y
    content_there =
        let inside : place.content + length new.content ≤ length (removed x place.run) = omega (arith, (removed-emptied x place.run fits.run).same_length, fits.inside, fits.run.inside, content_long) in
        with_content (removed x place.run) y (ap length is ∙ length-overwritten (removed x place.run) place.content new.content inside) refl
        (subst (λ (l : List ℕ). SameOutside place.content (length new.content) (removed x place.run) l) (sym is) (SameOutside-overwritten (removed x place.run) place.content (length new.content) new.content (omega arith) (omega (arith, inside))))

    -- all writes result in the component
    with_all : with_component y place (cell_end new place) metadata ≡ added x new place
    with_all =
        let whole : List ℕ = metadata ++ new.content in
        let end = cell_end new place in
        let d = place.content + length new.content in
        let long : length whole ≡ d - place.header = omega (arith, length-append metadata new.content, written_long, room.metadata_is) in
        let pad : end - d ≡ round64 (length whole) - length whole = omega (arith, long, fits.header.aligned, fits.header.room) in
        let behind : List ℕ = empty_between x end place.run.end in
        ap (λ (l : List ℕ). with_component l place end metadata) is
        ∙ inserted x place end metadata room new.content (omega arith)
        ∙ ap (λ (l : List ℕ). overwritten x place.run.start (empty_between x place.run.start place.header ++ l)) (sym (append_assoc whole (padding (end - d) (kept_at x end)) behind))
        ∙ ap (λ n. overwritten x place.run.start (empty_between x place.run.start place.header ++ ((whole ++ padding n (kept_at x end)) ++ behind))) pad

    -- the writes one by one
    module _ (m : List ℕ) (m_is : m ≡ metadata) (skip : ℕ) (skip_is : skip ≡ held_back place) (end : ℕ) (end_is : end ≡ round64 (place.content + wanted.len)) where
      abbrev rest : List ℕ
      rest = take (length m - skip) (drop skip m)

      rest_is : rest ≡ drop (held_back place) metadata
      rest_is = take_rest m skip ∙ ap (λ (l : List ℕ). drop skip l) m_is ∙ ap (λ k. drop k metadata) skip_is

      cell_end_is : end ≡ cell_end new place
      cell_end_is = end_is ∙ ap (λ n. round64 (place.content + n)) (sym content_long)

      pub stopped : (z : List ℕ) → IsEmptied place.run to x z → IsEmptied place.run (max (place.content + wanted.len) (space_end size place.run.end)) x z
      stopped z emptied = rw (← x_long, ← content_long) emptied

      pub first_left : (z : List ℕ) → length z ≡ length y → SameOutside (place.header + skip) (length rest) y z → IsEmptied place.run to x z
      first_left z long same =
          emptied-write x place.run fits.run to y content_there z (place.header + skip) (length rest) long (omega (arith, held, skip_is))
          (omega (arith, held, skip_is, ap length rest_is, length-drop (held_back place) metadata, written_long, room.metadata_is, room.metadata_long)) same

      pub second_left : (z w : List ℕ) → IsEmptied place.run to x z → length w ≡ length z → (w ≡ z) ⊎ ((end < place.run.end) × SameOutside end header_length z w) → IsEmptied place.run to x w
      second_left z w so_far long (inl same) = subst (λ (l : List ℕ). IsEmptied place.run to x l) (sym same) so_far
      second_left z w so_far long (inr (some, same)) =
          emptied-write x place.run fits.run to z so_far w end header_length long (omega (arith, cell_end_is, room.start_below, room.metadata_is, room.metadata_long, room.content_below))
          (omega (arith, near.1, some, cell_end_is, room.cell.end_aligned, room.run.end_aligned)) same

      pub finished : {T E : Type 0} (result : Result T E) (first second z begin : List ℕ) → (place.header ≡ place.run.start) × (begin ≡ take header_length m) ⊎ (place.header ≡ place.run.start → ⊥) × (begin ≡ empty_header (place.header - place.run.start) false)
          → IsEmptied place.run to x second → first ≡ overwritten y (place.header + skip) rest → second ≡ with_bound first end place.run.end → OnOk result (z ≡ overwritten second place.run.start begin) → (z ≡ second) ⊎ (z ≡ overwritten second place.run.start begin)
          → OnOk result (z ≡ added x new place) × ((z ≡ added x new place) ⊎ IsEmptied place.run (max (place.content + wanted.len) (space_end size place.run.end)) x z)
      finished result first second z begin shown so_far first_is second_is ok left =
          let begin_is : begin ≡ shown_by place metadata = ⊎_elim (λ s. rw (eq-eqb place.header place.run.start s.0, ← m_is) s.1) (λ s. rw (ne_eqb place.header place.run.start s.0) s.1) shown in
          let all : overwritten second place.run.start begin ≡ added x new place = rw (second_is, first_is, rest_is, skip_is, begin_is, cell_end_is) with_all in
          (on_ok_weaker result (λ e. e ∙ all) ok, ⊎_elim (λ same. inr (stopped z (subst (λ (l : List ℕ). IsEmptied place.run to x l) (sym same) so_far))) (λ e. inl (e ∙ all)) left)

  -- bytes behind the writes remain
  pub added-last : drop to (added x new place) ≡ drop to x
  added-last =
      let y : List ℕ = overwritten (removed x place.run) place.content new.content in
      let empty = content_there y refl in
      let behind : place.run.start + header_length ≤ to = omega (arith, near.1, fits.run.some) in
      ap (λ (l : List ℕ). drop to l) (sym (with_all y refl))
      ∙ finished-last y place (cell_end new place) to metadata (subst (λ n. HasRoom place (cell_end new place) (length metadata) n) (sym empty.same_length) room) (omega arith) (omega (arith, near.1))
      ∙ further x y (place.run.start + (to - place.run.start)) to (omega (arith, behind)) (emptied-outside x place.run fits.run to y empty behind).after
