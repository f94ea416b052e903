use Rattle.std.proofs.Common.{◌≡◌, ℕ, ◌-◌, List, [], ◌++◌, length, take, replicate, refl, sym, ap, ◌∙◌, arith, append_assoc}
use Rattle.std.proofs.lemmas.Grind.{common_steps}
use Rattle.std.specs.Option.{option_copied}
use Rattle.std.proofs.lemmas.List.{take_at, take-replicate}
use Rattle.flash_format.specs.declared.head.Head.{Head}
use Rattle.flash_format.specs.Head.{head_bytes}
use Rattle.flash_format.specs.Made.{hash_bytes, made_head, name_room}
use Rattle.flash_format.proofs.meta.write_meta.Goals as goal

-- consecutive pushes
in_a_row : (b x y z v w head name nuls hash gap : List ℕ) → b ≡ [] → x ≡ b ++ head → y ≡ x ++ name → z ≡ y ++ nuls → v ≡ z ++ hash → w ≡ v ++ gap → w ≡ head ++ (name ++ nuls) ++ hash ++ gap
in_a_row b x y z v w head name nuls hash gap none one two three four five = rw (five, four, three, two, one, none, append_assoc head name nuls) refl

pub returns-clause-written : goal.returns-clause-written
returns-clause-written c =
    let m = c.args.meta.now in
    let name = m.name.now in
    let d = option_copied m.digest in
    let h : Head = made_head name m.kind d m.gap m.len in
    let nuls = name_room (length name) - length name in
    let head : c.write.result ≡ head_bytes h = c.write.ensures.bytes ∙ ap (λ (k : Head). head_bytes k) (grind arith) in
    let zeros : take (c.meta_len-name_end.result - 24 - length name) (replicate {A = ℕ} 4 0) ≡ replicate nuls 0 = ap (λ (k : ℕ). take k (replicate {A = ℕ} 4 0)) {x = c.meta_len-name_end.result - 24 - length name} (omega arith) ∙ take-replicate nuls 4 0 (omega arith) in
    let items = in_a_row c.new-bytes.result.items _ _ _ _ _ (head_bytes h) name (replicate nuls 0) (hash_bytes d) (replicate m.gap 255) c.new-bytes.ensures (rw head at c.push_text.ensures.items) c.push_text-2.ensures.items
    (c.push_text-3.ensures.items ∙ ap (λ (l : List ℕ). c.push_text-2.new.buffer.items ++ l) zeros) c.push_hash.ensures
    (c.push_text-4.ensures.items ∙ ap (λ (l : List ℕ). c.push_hash.new.bytes.items ++ l) (take-replicate m.gap 63 255 (omega arith))) in
    let copied : c.copy_from_slice.new.self ≡ c.push_text-4.new.buffer.items = c.copy_from_slice.ensures.after ∙ c.as_slice.ensures.value in
    take_at c.copy_from_slice.new.self _ c.len-end.result (ap length copied ∙ sym c.len-end.ensures.value) ∙ copied ∙ items

pub returns-clause-count : goal.returns-clause-count
returns-clause-count c = grind (arith, common_steps, ap (λ (l : List ℕ). length l) (returns-clause-written c))
