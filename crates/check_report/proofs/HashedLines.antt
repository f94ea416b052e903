-- The lines of components with their digests, part by part.
use Rattle.std.proofs.Common.{◌≡◌, ◌∙◌, ℕ, zero, suc, ◌<◌, ◌+◌, length, take, drop, get_or, List, [], ◌∷◌, ◌++◌, Ok, Err, Option, Some, None, map, refl, ap, sym, append-nil, arith}
use Rattle.std.specs.List.{flat_map, zip}
use Rattle.std.proofs.lemmas.List.{map-append, take_more}
use Rattle.std.proofs.lemmas.List.Concat.{flat_map-cons}
use Rattle.std.proofs.lemmas.Grind.{flat_map-append}
use Rattle.flash_device.specs.declared.sink.Sink.{Ghosts as SinkOf}
use Rattle.check_digests.specs.Digests.{SeenDigests}
use Rattle.flash_format.specs.Made.{digest_bytes}
use Rattle.flash_format.specs.declared.digest.Digest.{Digest}
use Rattle.hex.specs.Hex.{encode_lower}
use Rattle.std.specs.Borrow.{Bor}
use Rattle.std.specs.Option.{option_copied, option_map, option_map_or}
use Rattle.check_report.specs.declared.rows.field.Value.TheVariants.{Dash}
use Rattle.check_report.specs.declared.fault.WriteFault.{WriteFault}
use Rattle.check_report.specs.declared.rows.printer.Printer.{Printer}
use Rattle.check_report.specs.Effects.{PrintsLines}
use Rattle.check_report.specs.Fields.{seen_value, text_value}
use Rattle.check_report.specs.Reports.{ListedComponent, digest_value, hashed_line, hashed_lines}
use Rattle.check_report.proofs.PrinterEffects.{flat_map_at, lines_after, lines_before, prints_none}

zip_with_none : {A B : Type 0} (xs : List A) → (let none : List B = [] in zip xs none) ≡ []
zip_with_none [] = refl
zip_with_none (x ∷ xs) = refl

drop_none : {A : Type 0} (n : ℕ) → (let none : List A = [] in drop n none) ≡ []
drop_none zero = refl
drop_none (suc n) = refl

zip_split : {A B : Type 0} (xs ys : List A) (ds : List B) → zip (xs ++ ys) ds ≡ zip xs ds ++ zip ys (drop (length xs) ds)
zip_split [] ys ds = refl
zip_split (x ∷ xs) ys [] = sym (ap (zip ys) (drop_none (length (x ∷ xs))) ∙ zip_with_none ys)
zip_split (x ∷ xs) ys (d ∷ ds) = ap (λ l. (x, d) ∷ l) (zip_split xs ys ds)

drop_both : {A B : Type 0} (xs ys : List A) (ds : List B) → drop (length (xs ++ ys)) ds ≡ drop (length ys) (drop (length xs) ds)
drop_both [] ys ds = refl
drop_both (x ∷ xs) ys [] = drop_none (length (x ∷ xs ++ ys)) ∙ sym (ap (drop (length ys)) (drop_none (length (x ∷ xs))) ∙ drop_none (length ys))
drop_both (x ∷ xs) ys (d ∷ ds) = drop_both xs ys ds

hashed_split : (xs ys : List ListedComponent) (ds : List SeenDigests) → hashed_lines (xs ++ ys) ds ≡ hashed_lines xs ds ++ hashed_lines ys (drop (length xs) ds)
hashed_split xs ys ds = ap (map hashed_line) (zip_split xs ys ds) ∙ map-append hashed_line (zip xs ds) _

-- these components are printed with the first digests, and `left` are the others
pub record Hashed {W : Type 0} (sink : SinkOf W) (first now : Printer W) (all left : List SeenDigests) (components : List ListedComponent) : Type 0 where
  pub lines : PrintsLines sink (Ok tt) first now (hashed_lines components all)
  pub rest : left ≡ drop (length components) all

pub hashed_start : {W : Type 0} (sink : SinkOf W) (first : Printer W) (all : List SeenDigests) → Hashed sink first first all all []
hashed_start sink first all = record { lines = prints_none sink first; rest = refl }

both : {W : Type 0} (sink : SinkOf W) (first old new : Printer W) (all left next : List SeenDigests) (xs ys : List ListedComponent)
    → Hashed sink first old all left xs → PrintsLines sink (Ok tt) old new (hashed_lines ys left) → next ≡ drop (length ys) left → Hashed sink first new all next (xs ++ ys)
both sink first old new all left next xs ys so_far more rest = record {
  lines = rw (hashed_split xs ys all) (lines_after sink (Ok tt) first old new (hashed_lines xs all) _ so_far.lines (rw so_far.rest at more));
  rest = rest ∙ ap (drop (length ys)) so_far.rest ∙ sym (drop_both xs ys all);
}

module _ {W X : Type 0} (sink : SinkOf W) (f : X → List ListedComponent) (xs : List X) where
  -- the components of another element
  pub hashed_more : {first old new : Printer W} {all left next : List SeenDigests} (i : ℕ) (d x : X) → i < length xs → x ≡ get_or xs i d
      → Hashed sink first old all left (flat_map f (take i xs)) → PrintsLines sink (Ok tt) old new (hashed_lines (f x) left) → next ≡ drop (length (f x)) left
      → Hashed sink first new all next (flat_map f (take (i + 1) xs))
  hashed_more {first} {old} {new} {all} {left} {next} i d x lt is so_far more rest =
      rw (take_more xs i d lt, ← is, flat_map-append f (take i xs) (x ∷ []), flat_map-cons f x [], append-nil (f x))
      (both sink first old new all left next (flat_map f (take i xs)) (f x) so_far more rest)

  -- a fault among the components of an element
  pub hashed_stopped : {first old new : Printer W} {all left : List SeenDigests} (e : WriteFault) (i : ℕ) (d x : X) → i < length xs → x ≡ get_or xs i d
      → Hashed sink first old all left (flat_map f (take i xs)) → PrintsLines sink (Err e) old new (hashed_lines (f x) left)
      → PrintsLines sink (Err e) first new (hashed_lines (flat_map f xs) all)
  hashed_stopped {first} {old} {new} {all} {left} e i d x lt is so_far failed =
      let before = flat_map f (take i xs) in
      rw (flat_map_at f xs i d x lt is, hashed_split (before ++ f x) (flat_map f (drop (i + 1) xs)) all, hashed_split before (f x) all)
      (lines_before sink first new e _ _ (lines_after sink (Err e) first old new (hashed_lines before all) _ so_far.lines (rw so_far.rest at failed)))

-- ---- the fields of the digests

copied : (text : Option (Bor (List ℕ))) → option_copied text ≡ option_map (λ (t : Bor (List ℕ)). t.now) text
copied None = refl
copied (Some t) = refl

mapped : (found : Option Digest) → option_map_or text_value (option_map (λ (d : Digest). encode_lower (digest_bytes d)) found) (seen_value Dash) ≡ option_map_or (λ (d : Digest). digest_value (digest_bytes d)) found (seen_value Dash)
mapped None = refl
mapped (Some d) = refl

-- the value of the field, by the digits of the stored digest
pub stored_value : (text : Option (Bor (List ℕ))) (digits : Option (List ℕ)) (found : Option Digest) → option_map (λ (t : Bor (List ℕ)). t.now) text ≡ digits → digits ≡ option_map (λ (d : Digest). encode_lower (digest_bytes d)) found
    → option_map_or text_value (option_copied text) (seen_value Dash) ≡ option_map_or (λ (d : Digest). digest_value (digest_bytes d)) found (seen_value Dash)
stored_value text digits found is are = ap (λ o. option_map_or text_value o (seen_value Dash)) (copied text ∙ is ∙ are) ∙ mapped found

-- ---- one component

-- no digests are left
pub hashed_without : (components : List ListedComponent) (left : List SeenDigests) → length left ≡ 0 → hashed_lines components left ≡ []
hashed_without components [] none = ap (map hashed_line) (zip_with_none components)
hashed_without components (d ∷ left) none = absurd (omega (arith, none))

-- a component with the first digests
pub hashed_one : (component : ListedComponent) (left rest : List SeenDigests) (first : SeenDigests) → left ≡ first ∷ rest → hashed_lines (component ∷ []) left ≡ hashed_line (component, first) ∷ []
hashed_one component left rest first is = rw is refl
