use Rattle.flash_device.specs.declared.flash.FlashFault.{FlashFault}
use Rattle.std.proofs.Common.{◌+◌, length, Result, Ok, inr, refl, Some, ap, ◌∙◌, sym, arith, rules}
use Rattle.std.proofs.lemmas.Result.{err_from_is_err_and}
use Rattle.flash_device.specs.Regions.{bytes_in}
use Rattle.flash_device.proofs.DeviceLemmas.{honest_still}
use Rattle.flash_format.specs.Made.{meta_length}
use Rattle.cbfs_edit.specs.Additions.{new_component}
use Rattle.cbfs_edit.specs.declared.place.Wanted.{Wanted}
use Rattle.cbfs_edit.proofs.Changes.{copy-counts, copy-done, copy-outside, copy-torn}
use Rattle.cbfs_edit.proofs.AdditionLemmas.{own-is, no_fault, digest-sized, searched, addition_refused, empty_left, copied_left, shown_left, shown_done}
use Rattle.cbfs_edit.proofs.addition.add.Goals as goal

pub returns-in-Some-clause-effect : goal.returns-in-Some-clause-effect
returns-in-Some-clause-effect g c honest =
    let new = new_component c.args.name.now c.args.kind c.args.hash (g.S.Source.facts c.args.source.now).content in
    let x = bytes_in c.args.region c.args.paged.now.device.content in
    addition_refused c.args.region (new_component c.args.name.now c.args.kind c.args.hash) c.args.spot (g.S.Source.facts c.args.source.now) c.in-Some.fault _ _ (inr (own-is x new c.args.spot (Some c.in-Some.fault) (sym c.in-Some.is ∙ c.argument_fault.ensures))) refl

pub find_place-requires-clause-spot : goal.find_place-requires-clause-spot
find_place-requires-clause-spot g c = rw (c.wanted_of-wanted.ensures c.args.kind _ c.len.ensures.length) (search rules)

pub returns-in_err-place-clause-effect : goal.returns-in_err-place-clause-effect
returns-in_err-place-clause-effect g c honest =
    let new = new_component c.args.name.now c.args.kind c.args.hash (g.S.Source.facts c.args.source.now).content in
    let x = bytes_in c.args.region c.args.paged.now.device.content in
    let own = no_fault c.argument_fault.result c.in_default.not-Some ∙ c.argument_fault.ensures in
    let told = err_from_is_err_and c.from_residual.result c.from_residual.ensures.1 in
    rw (told.1, told.2) (addition_refused c.args.region (new_component c.args.name.now c.args.kind c.args.hash) c.args.spot (g.S.Source.facts c.args.source.now) c.in_err-place.field-0.0 _ _
    (searched x new c.args.spot _ own (c.wanted_of-wanted.ensures c.args.kind new.content c.len.ensures.length) _ (c.in_err-place.ensures.answer honest)) (c.find_place.ensures.after.device.unchanged honest))

pub returns-in_err-write_empty_entry-clause-effect : goal.returns-in_err-write_empty_entry-clause-effect
returns-in_err-write_empty_entry-clause-effect g c honest =
    let source = g.S.Source.facts c.args.source.now in
    let make = new_component c.args.name.now c.args.kind c.args.hash in
    let own = no_fault c.argument_fault.result c.in_default.not-Some ∙ c.argument_fault.ensures in
    let is = c.wanted_of-wanted.ensures c.args.kind source.content c.len.ensures.length in
    let found = searched (bytes_in c.args.region c.args.paged.now.device.content) (make source.content) c.args.spot _ own is _ (c.in_ok-place.ensures.answer honest) in
    let first = honest_still c.find_place.ensures.after.device.calls.same_honesty honest in
    let told = err_from_is_err_and c.from_residual-in_err-write_empty_entry.result c.from_residual-in_err-write_empty_entry.ensures.1 in
    rw (told.1, told.2) (empty_left c.args.region c.args.paged.now.device make c.args.spot source _ c.in_ok-place.place c.requires is c.ranges.kind.fits (digest-sized c.args.hash source.content) found _ _ (c.find_place.ensures.after.device.unchanged honest) c.write_empty_entry.ensures.after.calls.same_length (c.write_empty_entry.ensures.left first))

pub copy_content-requires : goal.copy_content-requires
copy_content-requires g c =
    let len = ap (λ (w : Wanted). w.len) (c.wanted_of-wanted.ensures c.args.kind (g.S.Source.facts c.args.source.now).content c.len.ensures.length) in
    search rules

pub returns-in_err-digest-clause-after : goal.returns-in_err-digest-clause-after
returns-in_err-digest-clause-after g c =
    let source = g.S.Source.facts c.args.source.now in
    let is = c.wanted_of-wanted.ensures c.args.kind source.content c.len.ensures.length in
    let len = ap (λ (w : Wanted). w.len) is in
    let outside = copy-outside c.args.region c.in_ok-place.place.content _ _ _ source _ (ap (λ n. n + c.in_ok-place.place.content) c.start.ensures) (omega (arith, c.in_ok-place.ensures.found.inside, c.in_ok-place.ensures.found.run.inside, ap (λ (w : Wanted). w.len) is)) _ c.copy_content.ensures.after in
    let counts = copy-counts c.in_err-digest.field-0.0 in
    let told = err_from_is_err_and c.from_residual-in_err-digest.result c.from_residual-in_err-digest.ensures.1 in
    rw (told.1, told.2) (search rules)

pub returns-in_err-digest-clause-effect : goal.returns-in_err-digest-clause-effect
returns-in_err-digest-clause-effect g c honest =
    let source = g.S.Source.facts c.args.source.now in
    let make = new_component c.args.name.now c.args.kind c.args.hash in
    let own = no_fault c.argument_fault.result c.in_default.not-Some ∙ c.argument_fault.ensures in
    let is = c.wanted_of-wanted.ensures c.args.kind source.content c.len.ensures.length in
    let found = searched (bytes_in c.args.region c.args.paged.now.device.content) (make source.content) c.args.spot _ own is _ (c.in_ok-place.ensures.answer honest) in
    let first = honest_still c.find_place.ensures.after.device.calls.same_honesty honest in
    let second = honest_still c.write_empty_entry.ensures.after.calls.same_honesty first in
    let told = err_from_is_err_and c.from_residual-in_err-digest.result c.from_residual-in_err-digest.ensures.1 in
    rw (told.1, told.2) (copied_left c.args.region c.args.paged.now.device make c.args.spot source _ c.in_ok-place.place c.requires is c.ranges.kind.fits (digest-sized c.args.hash source.content) found _ _ (c.find_place.ensures.after.device.unchanged honest) c.write_empty_entry.ensures.after.calls.same_length _ c.copy_content.ensures.after.calls.same_length (c.in_ok-write_empty_entry.ensures.written first) (copy-torn c.args.region c.in_ok-place.place.content _ _ _ source _ (ap (λ n. n + c.in_ok-place.place.content) c.start.ensures) (omega (arith, c.in_ok-place.ensures.found.inside, c.in_ok-place.ensures.found.run.inside, ap (λ (w : Wanted). w.len) is)) _ c.copy_content.ensures.after second) c.in_err-digest.field-0.0)

pub describe-requires-clause-metadata : goal.describe-requires-clause-metadata
describe-requires-clause-metadata g c =
    let content = (g.S.Source.facts c.args.source.now).content in
    ap (λ (w : Wanted). w.metadata_len) (c.wanted_of-wanted.ensures c.args.kind content c.len.ensures.length) ∙ ap (λ n. meta_length (length c.args.name.now) n) (sym (c.in_ok-digest.ensures.digest_len content))

pub returns-in_err-describe-clause-after : goal.returns-in_err-describe-clause-after
returns-in_err-describe-clause-after g c =
    let source = g.S.Source.facts c.args.source.now in
    let is = c.wanted_of-wanted.ensures c.args.kind source.content c.len.ensures.length in
    let len = ap (λ (w : Wanted). w.len) is in
    let outside = copy-outside c.args.region c.in_ok-place.place.content _ _ _ source _ (ap (λ n. n + c.in_ok-place.place.content) c.start.ensures) (omega (arith, c.in_ok-place.ensures.found.inside, c.in_ok-place.ensures.found.run.inside, ap (λ (w : Wanted). w.len) is)) _ c.copy_content.ensures.after in
    search rules

pub returns-in_err-describe-clause-effect : goal.returns-in_err-describe-clause-effect
returns-in_err-describe-clause-effect g c honest =
    let source = g.S.Source.facts c.args.source.now in
    let make = new_component c.args.name.now c.args.kind c.args.hash in
    let own = no_fault c.argument_fault.result c.in_default.not-Some ∙ c.argument_fault.ensures in
    let is = c.wanted_of-wanted.ensures c.args.kind source.content c.len.ensures.length in
    let found = searched (bytes_in c.args.region c.args.paged.now.device.content) (make source.content) c.args.spot _ own is _ (c.in_ok-place.ensures.answer honest) in
    let first = honest_still c.find_place.ensures.after.device.calls.same_honesty honest in
    let second = honest_still c.write_empty_entry.ensures.after.calls.same_honesty first in
    let third = honest_still c.copy_content.ensures.after.calls.same_honesty second in
    let told = err_from_is_err_and c.from_residual-in_err-describe.result c.from_residual-in_err-describe.ensures.1 in
    rw (told.1, told.2) (shown_left c.args.region c.args.paged.now.device make c.args.spot source _ c.in_ok-place.place c.requires is c.ranges.kind.fits (digest-sized c.args.hash source.content) found _ _ (c.find_place.ensures.after.device.unchanged honest) c.write_empty_entry.ensures.after.calls.same_length _ c.copy_content.ensures.after.calls.same_length (c.in_ok-write_empty_entry.ensures.written first) (copy-torn c.args.region c.in_ok-place.place.content _ _ _ source _ (ap (λ n. n + c.in_ok-place.place.content) c.start.ensures) (omega (arith, c.in_ok-place.ensures.found.inside, c.in_ok-place.ensures.found.run.inside, ap (λ (w : Wanted). w.len) is)) _ c.copy_content.ensures.after second)
    c.describe.result c.in_ok-digest.digest _ c.describe.ensures.after.calls.same_length c.in_ok-digest.ensures.digest (copy-done c.args.region c.in_ok-place.place.content _ _ _ source _ (ap (λ n. n + c.in_ok-place.place.content) c.start.ensures) (omega (arith, c.in_ok-place.ensures.found.inside, c.in_ok-place.ensures.found.run.inside, ap (λ (w : Wanted). w.len) is)) (Ok c.in_ok-digest.digest) c.in_ok-digest.ensures.after (omega (arith, c.requires.inside, c.write_empty_entry.ensures.after.calls.same_length, c.find_place.ensures.after.device.calls.same_length)) second) (c.describe.ensures.shown third))

pub returns-clause-after : goal.returns-clause-after
returns-clause-after g c =
    let source = g.S.Source.facts c.args.source.now in
    let is = c.wanted_of-wanted.ensures c.args.kind source.content c.len.ensures.length in
    let len = ap (λ (w : Wanted). w.len) is in
    let outside = copy-outside c.args.region c.in_ok-place.place.content _ _ _ source _ (ap (λ n. n + c.in_ok-place.place.content) c.start.ensures) (omega (arith, c.in_ok-place.ensures.found.inside, c.in_ok-place.ensures.found.run.inside, ap (λ (w : Wanted). w.len) is)) _ c.copy_content.ensures.after in
    search rules

pub returns-clause-effect : goal.returns-clause-effect
returns-clause-effect g c honest =
    let source = g.S.Source.facts c.args.source.now in
    let make = new_component c.args.name.now c.args.kind c.args.hash in
    let own = no_fault c.argument_fault.result c.in_default.not-Some ∙ c.argument_fault.ensures in
    let is = c.wanted_of-wanted.ensures c.args.kind source.content c.len.ensures.length in
    let found = searched (bytes_in c.args.region c.args.paged.now.device.content) (make source.content) c.args.spot _ own is _ (c.in_ok-place.ensures.answer honest) in
    let first = honest_still c.find_place.ensures.after.device.calls.same_honesty honest in
    let second = honest_still c.write_empty_entry.ensures.after.calls.same_honesty first in
    let third = honest_still c.copy_content.ensures.after.calls.same_honesty second in
    shown_done c.args.region c.args.paged.now.device make c.args.spot source _ c.in_ok-place.place c.requires is c.ranges.kind.fits (digest-sized c.args.hash source.content) found _ _ (c.find_place.ensures.after.device.unchanged honest) c.write_empty_entry.ensures.after.calls.same_length _ c.copy_content.ensures.after.calls.same_length (c.in_ok-write_empty_entry.ensures.written first) (copy-torn c.args.region c.in_ok-place.place.content _ _ _ source _ (ap (λ n. n + c.in_ok-place.place.content) c.start.ensures) (omega (arith, c.in_ok-place.ensures.found.inside, c.in_ok-place.ensures.found.run.inside, ap (λ (w : Wanted). w.len) is)) _ c.copy_content.ensures.after second)
    (let done : Result (Unit {0}) FlashFault = Ok c.in_ok-describe.field-0 in done) c.in_ok-digest.digest _ c.describe.ensures.after.calls.same_length c.in_ok-digest.ensures.digest (copy-done c.args.region c.in_ok-place.place.content _ _ _ source _ (ap (λ n. n + c.in_ok-place.place.content) c.start.ensures) (omega (arith, c.in_ok-place.ensures.found.inside, c.in_ok-place.ensures.found.run.inside, ap (λ (w : Wanted). w.len) is)) (Ok c.in_ok-digest.digest) c.in_ok-digest.ensures.after (omega (arith, c.requires.inside, c.write_empty_entry.ensures.after.calls.same_length, c.find_place.ensures.after.device.calls.same_length)) second) (c.in_ok-describe.ensures.shown third) (λ p. p) ((returns-clause-after g c).outside honest)
