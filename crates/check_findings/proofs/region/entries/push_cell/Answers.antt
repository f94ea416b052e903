use Rattle.std.proofs.Common.{◌≡◌, ◌∙◌, List, ℕ, sym, subst}
use Rattle.flash_format.specs.Components.{cell_attributes, cell_content, compression_of}
use Rattle.flash_device.specs.Regions.{bytes_in}
use Rattle.flash_device.proofs.DeviceLemmas.{honest_still}
use Rattle.cbfs_anchor.specs.Metadata.{stored_hash}
use Rattle.cbfs_walk.specs.Cells.{cell_in}
use Rattle.cbfs_walk.specs.Hashes.{hash_state}
use Rattle.cbfs_walk.specs.Walks.{StandsIn}
use Rattle.std.proofs.Common.{ap}
use Rattle.flash_format.specs.Head.{is_free}
use Rattle.check_findings.specs.Attributes.{cell_fault}
use Rattle.check_findings.proofs.region.entries.push_cell.Goals as goal

pub returns-then-is_free-clause-found : goal.returns-then-is_free-clause-found
returns-then-is_free-clause-found g c = λ h stands.
    let r = c.args.region in
    let cell = c.args.cell.now in
    let image = c.args.paged.now.device.content in
    let known = c.cells_stand_in_their_image.ensures r image cell c.requires.region.inside c.requires.cell stands in
    rw (known.head, sym c.is_free.ensures ∙ c.if-is_free.true) c.in_ok-push_if.ensures

pub returns-clause-found : goal.returns-clause-found
returns-clause-found g c = λ h stands.
    let r = c.args.region in
    let cell = c.args.cell.now in
    let image = c.args.paged.now.device.content in
    let x : List ℕ = cell_in (bytes_in r image) cell in
    let known = c.cells_stand_in_their_image.ensures r image cell c.requires.region.inside c.requires.cell stands in
    let named = c.in_ok-len.ensures in
    let same = named.calls.read.device.unchanged h in
    let there = subst (λ (l : List ℕ). StandsIn (bytes_in r l) cell) (sym same) stands in
    let still = honest_still named.calls.read.device.calls.same_honesty h in
    let compressed = subst (λ (l : List ℕ). c.in_ok-compression.compression ≡ compression_of (cell_attributes (cell_in (bytes_in r l) cell))) same
    (c.in_ok-compression.ensures.compression still there) in
    let packed = c.in_ok-compression.ensures.calls.read.device in
    let after = packed.unchanged still ∙ same in
    let once = honest_still packed.calls.same_honesty still in
    let stays = subst (λ (l : List ℕ). StandsIn (bytes_in r l) cell) (sym after) stands in
    let stored = subst (λ (l : List ℕ). c.in_ok-stored.stored ≡ stored_hash (cell_attributes (cell_in (bytes_in r l) cell))) after
    (c.in_ok-stored.ensures.hash once stays) in
    let searched = c.in_ok-stored.ensures.calls.read.device in
    let later = searched.unchanged once ∙ after in
    let twice = honest_still searched.calls.same_honesty once in
    let fault = subst (λ (l : List ℕ). c.in_ok-fault.fault ≡ cell_fault (cell_in (bytes_in r l) cell)) later
    (c.in_ok-fault.ensures.fault twice (subst (λ (l : List ℕ). StandsIn (bytes_in r l) cell) (sym later) stands)) in
    let faulted = c.in_ok-fault.ensures.calls.read.device in
    let last = faulted.unchanged twice ∙ later in
    let state = subst (λ (l : List ℕ). c.in_ok-state.state ≡ hash_state (cell_attributes (cell_in (bytes_in r l) cell)) (cell_content (cell_in (bytes_in r l) cell))) last
    (c.in_ok-state.ensures.state (honest_still faulted.calls.same_honesty twice) (subst (λ (l : List ℕ). StandsIn (bytes_in r l) cell) (sym last) stands)) in
    rw (ap is_free known.head ∙ sym c.if-is_free.ensures) (rw (c.in_ok-copied.ensures, c.from.ensures, c.of.ensures, named.name h stands, sym known.head, compressed, state, stored, fault) at c.in_ok-push.ensures.items)
