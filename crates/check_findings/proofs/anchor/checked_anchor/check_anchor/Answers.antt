use Rattle.std.proofs.Common.{◌≡◌, ◌∙◌, Some, None, sym}
use Rattle.std.proofs.lemmas.Bool.{false≢true}
use Rattle.flash_device.proofs.DeviceLemmas.{honest_still}
use Rattle.flash_map.specs.Fmap.{found_in}
use Rattle.check_findings.proofs.AnchorLemmas.{with_place, without_map, without_place}
use Rattle.check_findings.proofs.anchor.checked_anchor.check_anchor.Goals as goal

pub returns-in_default-clause-checked : goal.returns-in_default-clause-checked
returns-in_default-clause-checked g c = λ h is.
    let none : found_in c.args.paged.now.device.content ≡ None = cc in
    without_map _ c.no_anchor.result none c.no_anchor.ensures.anchor c.no_anchor.ensures.findings

pub returns-in-Ok-clause-checked : goal.returns-in-Ok-clause-checked
returns-in-Ok-clause-checked g c = λ h is.
    let there : found_in c.args.paged.now.device.content ≡ Some c.in-Some.map = cc in
    let first = c.in-Ok.ensures.calls.device in
    let still = honest_still first.calls.same_honesty h in
    with_place _ c.in-Some.map c.in-Ok.place c.check_place.result there (c.in-Ok.ensures.place h) (rw (first.unchanged h) at (c.check_place.ensures.anchor still)) (rw (first.unchanged h) at (c.check_place.ensures.findings still))

pub returns-else-eq-clause-checked : goal.returns-else-eq-clause-checked
returns-else-eq-clause-checked g c = λ h is.
    let there : found_in c.args.paged.now.device.content ≡ Some c.in-Some.map = cc in
    without_place _ c.in-Some.map c.in-Err.fault c.no_anchor-in-Err.result there (λ e. false≢true (sym c.if-eq.false ∙ (rw e at c.eq.ensures))) (c.in-Err.ensures.place h) c.no_anchor-in-Err.ensures.anchor c.no_anchor-in-Err.ensures.findings
