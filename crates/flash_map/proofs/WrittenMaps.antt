-- A search finds a written map.
use Rattle.std.proofs.Common.{◌≡◌, ℕ, ◌+◌, List, ◌++◌, length, take, drop, Option, Some, sym, ◌∙◌, ap}
use Rattle.std.specs.Option.{option_map}
use Rattle.std.proofs.lemmas.List.{drop_at, drop-drop, length-take-le}
use Rattle.flash_format.specs.declared.flashmap.FmapHead.{FmapHead}
use Rattle.flash_format.specs.Flashmap.{areas_from, fmap_head_len, fmap_head_of, is_map}
use Rattle.flash_format.specs.Laws.{IsReadAsMap}
use Rattle.flash_format.proofs.MapBytes.{lowest_found}
use Rattle.flash_device.specs.Device.{overwritten}
use Rattle.flash_map.specs.Fmap.{FindsMap}
use Rattle.flash_format.specs.Laws.{NoMapBelow}
use Rattle.flash_format.specs.declared.flashmap.Area.{Area}
use Rattle.std.specs.Prelude.{◌≤◌}
use Rattle.flash_map.specs.declared.search.FoundMap.{FoundMap}

pub maps_found : (h : FmapHead) (areas : List Area) (bytes image : List ℕ) (q : ℕ) → ((more : List ℕ) → IsReadAsMap h areas (bytes ++ more)) → q ≤ length image → let now = overwritten image q bytes in NoMapBelow now q → FindsMap h areas now q
maps_found h areas bytes image q read inside none =
    let rest : List ℕ = drop (q + length bytes) image in
    let now : List ℕ = overwritten image q bytes in
    let there : drop q now ≡ bytes ++ rest = drop_at (take q image) (bytes ++ rest) q (length-take-le q image inside) in
    let is : IsReadAsMap h areas (bytes ++ rest) = read rest in
    let head : fmap_head_of (drop q now) ≡ h = ap fmap_head_of there ∙ is.head in
    let behind : drop (q + fmap_head_len) now ≡ drop fmap_head_len (bytes ++ rest) = sym (drop-drop fmap_head_len q now) ∙ ap (λ (l : List ℕ). drop fmap_head_len l) there in
    record {
      found =
          ap (λ (o : Option ℕ). option_map (λ p. let f : FoundMap = record { at = p; head = fmap_head_of (drop p now) } in f) o) (lowest_found now q (ap is_map there ∙ is.valid) none)
          ∙ ap (λ (k : FmapHead). Some (let f : FoundMap = record { at = q; head = k } in f)) head;
      all = ap (λ (l : List ℕ). areas_from h.nareas l) behind ∙ is.all;
    }
