use Rattle.std.proofs.Common.{◌≡◌, ◌∙◌, ap, refl, sym, List, ℕ}
use Rattle.flash_device.proofs.DeviceLemmas.{honest_still}
use Rattle.flash_device.specs.Regions.{bytes_in}
use Rattle.flash_format.specs.Components.{cell_attributes, cell_content, component_at}
use Rattle.flash_format.specs.Head.{is_free}
use Rattle.cbfs_walk.specs.Cells.{cell_in}
use Rattle.cbfs_walk.specs.Hashes.{content_at, hash_state}
use Rattle.check_digests.specs.Digests.{content_digest, digests_of}
use Rattle.check_digests.proofs.StoredDigests.{compared_digest, content_in}
use Rattle.check_digests.proofs.region.push_digests.Goals as goal

pub returns-clause-digests : goal.returns-clause-digests
returns-clause-digests g c = λ h stands.
    let r = c.args.region in
    let cell = c.args.cell.now in
    let image = c.args.paged.now.device.content in
    let bytes : List ℕ = cell_in (bytes_in r image) cell in
    let known = c.cells_stand_in_their_image.ensures r image cell c.requires.region.inside c.requires.cell stands in
    let state : c.in_ok-state.state ≡ hash_state (cell_attributes bytes) (cell_content bytes) = c.in_ok-state.ensures.state h stands in
    let checked = c.in_ok-state.ensures.calls.read.device in
    let content : c.in_ok-content.content ≡ content_digest (content_at (bytes_in r image) cell) =
    rw (checked.unchanged h) at (c.in_ok-content.ensures.value (honest_still checked.calls.same_honesty h)) in
    let its : c.in_ok-content.content ≡ content_digest (cell_content bytes) =
    content ∙ ap content_digest (sym (content_in (bytes_in r image) cell known.head c.requires.cell.content)) in
    let digests : c.in_ok-digests.digests ≡ digests_of (component_at cell.at bytes) =
    rw (c.in_ok-digests.ensures, c.compared.ensures, state, compared_digest (cell_attributes bytes) (cell_content bytes), its) refl in
    rw (ap is_free known.head ∙ sym c.is_free.ensures ∙ c.if-is_free.false) (rw digests at c.in_ok-push.ensures)
