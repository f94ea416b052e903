use Rattle.std.proofs.Common.{ap, arith, ◌+◌, ◌*◌, ◌/◌, inl, inr, refl, take, ◌∙◌, ℕ}
use Rattle.std.proofs.lemmas.List.{length-take}
use Rattle.std.proofs.lemmas.Result.{err_from_is_err_and}
use Rattle.flash_device.proofs.DeviceLemmas.{honest_still}
use Rattle.cbfs_edit.proofs.EmptyEntries.{same_region_length}
use Rattle.cbfs_edit.proofs.Insertions.{finished, first_left, second_left, stopped}
use Rattle.cbfs_edit.proofs.insertion.describe.Goals as goal

pub slice_bounds-copy_from_slice-end-then-place : goal.slice_bounds-copy_from_slice-end-then-place
slice_bounds-copy_from_slice-end-then-place g c = omega (arith, c.write_meta-n.ensures.len, c.write_meta-n.auto.out, length-take {A = ℕ})

pub copy_from_slice-requires : goal.copy_from_slice-requires
copy_from_slice-requires g c = omega (arith, c.write_meta-n.ensures.len, c.write_meta-n.auto.out, length-take {A = ℕ})

pub returns-in_err-write_in-clause-shown : goal.returns-in_err-write_in-clause-shown
returns-in_err-write_in-clause-shown g c = λ honest x content x_long content_long is.
    let first = first_left x (record { name = c.args.name.now; kind = c.args.kind; digest = c.args.digest.now; content = content }) c.args.wanted c.args.place c.args.region.size x_long c.requires.fits c.requires.metadata content_long c.requires.name (rw c.as_ref.ensures.value at c.write_meta-n.ensures.digest) _ is (take c.write_meta-n.result c.write_meta-n.new.out) (c.write_meta-n.ensures.written ∙ rw (c.as_ref.ensures.value, c.from-2.ensures, c.requires.metadata, ← content_long) refl) c.held_back-skip.result c.held_back-skip.ensures _ (c.round64-end.ensures ∙ ap (λ n. (c.args.place.content + n + 63) / 64 * 64) c.from.ensures) _ (same_region_length c.args.region c.args.paged.now.device.content _ _ c.requires.region.inside refl c.write_in.ensures.after.calls.same_length) (c.write_in.ensures.left honest) in
    (rw (err_from_is_err_and c.from_residual.result c.from_residual.ensures.1).1 tt, inr (stopped x (record { name = c.args.name.now; kind = c.args.kind; digest = c.args.digest.now; content = content }) c.args.wanted c.args.place c.args.region.size x_long c.requires.fits c.requires.metadata content_long c.requires.name (rw c.as_ref.ensures.value at c.write_meta-n.ensures.digest) _ is (take c.write_meta-n.result c.write_meta-n.new.out) (c.write_meta-n.ensures.written ∙ rw (c.as_ref.ensures.value, c.from-2.ensures, c.requires.metadata, ← content_long) refl) c.held_back-skip.result c.held_back-skip.ensures _ (c.round64-end.ensures ∙ ap (λ n. (c.args.place.content + n + 63) / 64 * 64) c.from.ensures) _ first))

pub returns-in_err-write_bound-clause-shown : goal.returns-in_err-write_bound-clause-shown
returns-in_err-write_bound-clause-shown g c = λ honest x content x_long content_long is.
    let first = first_left x (record { name = c.args.name.now; kind = c.args.kind; digest = c.args.digest.now; content = content }) c.args.wanted c.args.place c.args.region.size x_long c.requires.fits c.requires.metadata content_long c.requires.name (rw c.as_ref.ensures.value at c.write_meta-n.ensures.digest) _ is (take c.write_meta-n.result c.write_meta-n.new.out) (c.write_meta-n.ensures.written ∙ rw (c.as_ref.ensures.value, c.from-2.ensures, c.requires.metadata, ← content_long) refl) c.held_back-skip.result c.held_back-skip.ensures _ (c.round64-end.ensures ∙ ap (λ n. (c.args.place.content + n + 63) / 64 * 64) c.from.ensures) _ (same_region_length c.args.region c.args.paged.now.device.content _ _ c.requires.region.inside refl c.write_in.ensures.after.calls.same_length) (c.write_in.ensures.left honest) in
    let second = second_left x (record { name = c.args.name.now; kind = c.args.kind; digest = c.args.digest.now; content = content }) c.args.wanted c.args.place c.args.region.size x_long c.requires.fits c.requires.metadata content_long c.requires.name (rw c.as_ref.ensures.value at c.write_meta-n.ensures.digest) _ is (take c.write_meta-n.result c.write_meta-n.new.out) (c.write_meta-n.ensures.written ∙ rw (c.as_ref.ensures.value, c.from-2.ensures, c.requires.metadata, ← content_long) refl) c.held_back-skip.result c.held_back-skip.ensures _ (c.round64-end.ensures ∙ ap (λ n. (c.args.place.content + n + 63) / 64 * 64) c.from.ensures) _ _ first (same_region_length c.args.region c.args.paged.now.device.content _ _ c.requires.region.inside c.write_in.ensures.after.calls.same_length c.write_bound.ensures.after.calls.same_length) (c.write_bound.ensures.left (honest_still c.write_in.ensures.after.calls.same_honesty honest)) in
    (rw (err_from_is_err_and c.from_residual-in_err-write_bound.result c.from_residual-in_err-write_bound.ensures.1).1 tt, inr (stopped x (record { name = c.args.name.now; kind = c.args.kind; digest = c.args.digest.now; content = content }) c.args.wanted c.args.place c.args.region.size x_long c.requires.fits c.requires.metadata content_long c.requires.name (rw c.as_ref.ensures.value at c.write_meta-n.ensures.digest) _ is (take c.write_meta-n.result c.write_meta-n.new.out) (c.write_meta-n.ensures.written ∙ rw (c.as_ref.ensures.value, c.from-2.ensures, c.requires.metadata, ← content_long) refl) c.held_back-skip.result c.held_back-skip.ensures _ (c.round64-end.ensures ∙ ap (λ n. (c.args.place.content + n + 63) / 64 * 64) c.from.ensures) _ second))

pub returns-then-place-clause-shown : goal.returns-then-place-clause-shown
returns-then-place-clause-shown g c = λ honest x content x_long content_long is.
    let first = first_left x (record { name = c.args.name.now; kind = c.args.kind; digest = c.args.digest.now; content = content }) c.args.wanted c.args.place c.args.region.size x_long c.requires.fits c.requires.metadata content_long c.requires.name (rw c.as_ref.ensures.value at c.write_meta-n.ensures.digest) _ is (take c.write_meta-n.result c.write_meta-n.new.out) (c.write_meta-n.ensures.written ∙ rw (c.as_ref.ensures.value, c.from-2.ensures, c.requires.metadata, ← content_long) refl) c.held_back-skip.result c.held_back-skip.ensures _ (c.round64-end.ensures ∙ ap (λ n. (c.args.place.content + n + 63) / 64 * 64) c.from.ensures) _ (same_region_length c.args.region c.args.paged.now.device.content _ _ c.requires.region.inside refl c.write_in.ensures.after.calls.same_length) (c.write_in.ensures.left honest) in
    let second = second_left x (record { name = c.args.name.now; kind = c.args.kind; digest = c.args.digest.now; content = content }) c.args.wanted c.args.place c.args.region.size x_long c.requires.fits c.requires.metadata content_long c.requires.name (rw c.as_ref.ensures.value at c.write_meta-n.ensures.digest) _ is (take c.write_meta-n.result c.write_meta-n.new.out) (c.write_meta-n.ensures.written ∙ rw (c.as_ref.ensures.value, c.from-2.ensures, c.requires.metadata, ← content_long) refl) c.held_back-skip.result c.held_back-skip.ensures _ (c.round64-end.ensures ∙ ap (λ n. (c.args.place.content + n + 63) / 64 * 64) c.from.ensures) _ _ first (same_region_length c.args.region c.args.paged.now.device.content _ _ c.requires.region.inside c.write_in.ensures.after.calls.same_length c.write_bound.ensures.after.calls.same_length) (c.write_bound.ensures.left (honest_still c.write_in.ensures.after.calls.same_honesty honest)) in
    finished x (record { name = c.args.name.now; kind = c.args.kind; digest = c.args.digest.now; content = content }) c.args.wanted c.args.place c.args.region.size x_long c.requires.fits c.requires.metadata content_long c.requires.name (rw c.as_ref.ensures.value at c.write_meta-n.ensures.digest) _ is (take c.write_meta-n.result c.write_meta-n.new.out) (c.write_meta-n.ensures.written ∙ rw (c.as_ref.ensures.value, c.from-2.ensures, c.requires.metadata, ← content_long) refl) c.held_back-skip.result c.held_back-skip.ensures _ (c.round64-end.ensures ∙ ap (λ n. (c.args.place.content + n + 63) / 64 * 64) c.from.ensures) c.commit_in.result _ _ _ _ (inl (c.if-place.true, c.copy_from_slice.ensures.after)) second (c.in_ok-write_in.ensures.written honest) (c.in_ok-write_bound.ensures.written (honest_still c.write_in.ensures.after.calls.same_honesty honest)) (c.commit_in.ensures.written (honest_still c.write_bound.ensures.after.calls.same_honesty (honest_still c.write_in.ensures.after.calls.same_honesty honest))) (c.commit_in.ensures.left (honest_still c.write_bound.ensures.after.calls.same_honesty (honest_still c.write_in.ensures.after.calls.same_honesty honest)))

pub returns-clause-shown : goal.returns-clause-shown
returns-clause-shown g c = λ honest x content x_long content_long is.
    let first = first_left x (record { name = c.args.name.now; kind = c.args.kind; digest = c.args.digest.now; content = content }) c.args.wanted c.args.place c.args.region.size x_long c.requires.fits c.requires.metadata content_long c.requires.name (rw c.as_ref.ensures.value at c.write_meta-n.ensures.digest) _ is (take c.write_meta-n.result c.write_meta-n.new.out) (c.write_meta-n.ensures.written ∙ rw (c.as_ref.ensures.value, c.from-2.ensures, c.requires.metadata, ← content_long) refl) c.held_back-skip.result c.held_back-skip.ensures _ (c.round64-end.ensures ∙ ap (λ n. (c.args.place.content + n + 63) / 64 * 64) c.from.ensures) _ (same_region_length c.args.region c.args.paged.now.device.content _ _ c.requires.region.inside refl c.write_in.ensures.after.calls.same_length) (c.write_in.ensures.left honest) in
    let second = second_left x (record { name = c.args.name.now; kind = c.args.kind; digest = c.args.digest.now; content = content }) c.args.wanted c.args.place c.args.region.size x_long c.requires.fits c.requires.metadata content_long c.requires.name (rw c.as_ref.ensures.value at c.write_meta-n.ensures.digest) _ is (take c.write_meta-n.result c.write_meta-n.new.out) (c.write_meta-n.ensures.written ∙ rw (c.as_ref.ensures.value, c.from-2.ensures, c.requires.metadata, ← content_long) refl) c.held_back-skip.result c.held_back-skip.ensures _ (c.round64-end.ensures ∙ ap (λ n. (c.args.place.content + n + 63) / 64 * 64) c.from.ensures) _ _ first (same_region_length c.args.region c.args.paged.now.device.content _ _ c.requires.region.inside c.write_in.ensures.after.calls.same_length c.write_bound.ensures.after.calls.same_length) (c.write_bound.ensures.left (honest_still c.write_in.ensures.after.calls.same_honesty honest)) in
    finished x (record { name = c.args.name.now; kind = c.args.kind; digest = c.args.digest.now; content = content }) c.args.wanted c.args.place c.args.region.size x_long c.requires.fits c.requires.metadata content_long c.requires.name (rw c.as_ref.ensures.value at c.write_meta-n.ensures.digest) _ is (take c.write_meta-n.result c.write_meta-n.new.out) (c.write_meta-n.ensures.written ∙ rw (c.as_ref.ensures.value, c.from-2.ensures, c.requires.metadata, ← content_long) refl) c.held_back-skip.result c.held_back-skip.ensures _ (c.round64-end.ensures ∙ ap (λ n. (c.args.place.content + n + 63) / 64 * 64) c.from.ensures) c.commit_in-2.result _ _ _ _ (inr (c.if-place.false, c.empty_header-begin.ensures)) second (c.in_ok-write_in.ensures.written honest) (c.in_ok-write_bound.ensures.written (honest_still c.write_in.ensures.after.calls.same_honesty honest)) (c.commit_in-2.ensures.written (honest_still c.write_bound.ensures.after.calls.same_honesty (honest_still c.write_in.ensures.after.calls.same_honesty honest))) (c.commit_in-2.ensures.left (honest_still c.write_bound.ensures.after.calls.same_honesty (honest_still c.write_in.ensures.after.calls.same_honesty honest)))
