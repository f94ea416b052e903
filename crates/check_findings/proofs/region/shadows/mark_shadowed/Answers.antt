use Rattle.std.proofs.Common.{◌≡◌, ◌∙◌, ◌+◌, [], ◌∷◌, suc, refl, take, get_or, add-one, drop, drop-cons, ap, sym, arith}
use Rattle.check_findings.proofs.RegionLemmas.PartNames.{all_marked}
use Rattle.std.proofs.lemmas.Grind.{fold-append}
use Rattle.std.proofs.Math.Seq.{take-suc}
use Rattle.std.proofs.lemmas.List.{take_all}
use Rattle.std.specs.List.{fold}
use Rattle.check_findings.specs.declared.region.finding.RegionFinding.{RegionFinding}
use Rattle.check_findings.proofs.RegionLemmas.Marks.{marking_end, marking_other, marking_component, mark_at, marked_here, marked_beyond, same_shadowed, shadowed}
use Rattle.check_findings.proofs.region.shadows.mark_shadowed.Goals.{in-Component+in_ok-is_new+in_ok-push_if, in_default, then-i-len+in-Component-index_mut, then-i-len+in_default-index_mut, else-i-len}
use Rattle.check_findings.proofs.region.shadows.mark_shadowed.Goals as goal

pub loop-i-preserved : goal.loop-i-preserved
loop-i-preserved c =
    let all = c.as_slice-all.result.now in
    let i = c.loop-i.i in
    let f = c.index-all-i.result in
    let here : drop i all ≡ f ∷ drop (i + 1) all = rw (add-one i) (drop-cons all i f c.loop-i-test.true ∙ ap (λ (g : RegionFinding). g ∷ drop (suc i) all) (sym c.index-all-i.is)) in
    elim c.match-all-i.branch [
      | in-Component+in_ok-is_new+in_ok-push_if w ↦ rw (w.names-is, w.indices-is, w.in_ok-push_if.ensures)
          (marking_component c.loop-i.names w.insert.new.self all c.loop-i.indices.items i _ (record { ref_ptr = (0, 0); now = w.in-Component.name }) _ _ _ c.loop-i.invariant (rw w.in-Component.is at here) w.in_ok-is_new.ensures.updates w.in_ok-is_new.ensures.added)
      | in_default w ↦ rw (w.names-is, w.indices-is) (marking_other _ all _ i f c.loop-i.invariant here w.in_default.not-Component)
    ]

pub loop-i-2-preserved : goal.loop-i-2-preserved
loop-i-2-preserved c =
    let items = c.deref-i-items.result.now in
    let k = c.loop-i-2.i-index in
    let more : fold mark_at c.args.findings.now.items (take (k + 1) items) ≡ mark_at c.loop-i-2.findings.items (get_or items k 0) = rw (add-one, take-suc items k 0 c.loop-i-2-test.true, fold-append mark_at _ (take k items) (get_or items k 0 ∷ []), sym c.loop-i-2.invariant) refl in
    elim c.if-i-len.branch [
      | then-i-len+in-Component-index_mut w ↦ rw (more, w.findings-is, ← ap shadowed w.in-Component-index_mut.is) (marked_here _ _ _ (omega (arith, w.if-i-len.true, c.len-in-loop-i-2.ensures, c.loop-i-2.findings.ok)) w.index_mut.ensures.value)
      | then-i-len+in_default-index_mut w ↦ rw (more, w.findings-is) (rw (same_shadowed _ w.in_default-index_mut.not-Component) at (marked_here c.loop-i-2.findings.items (get_or items k 0) _ (omega (arith, w.if-i-len.true, c.len-in-loop-i-2.ensures, c.loop-i-2.findings.ok)) w.index_mut.ensures.value))
      | else-i-len w ↦ rw (more, w.findings-is) (marked_beyond _ _ (omega (arith, w.if-i-len.false, c.len-in-loop-i-2.ensures)))
    ]

pub returns : goal.returns
unfolding all_marked
returns c =
    c.loop-i-2.invariant ∙ ap (fold mark_at _) (take_all _ _ c.loop-i-2-test.false ∙ c.deref-i-items.ensures.value) ∙ (rw c.as_slice-all.ensures.value at (marking_end c.loop-i.invariant c.loop-i-test.false))
