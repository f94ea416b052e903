use Rattle.std.proofs.Common.{[], sym, subst, ◌∙◌, drop, rules}
use Rattle.std.proofs.lemmas.List.{append-nil}
use Rattle.flash_format.specs.Entry.{name_end}
use Rattle.flash_device.specs.Regions.{bytes_in}
use Rattle.flash_device.proofs.DeviceLemmas.{honest_still}
use Rattle.cbfs_anchor.specs.Algorithms.{Holds}
use Rattle.cbfs_anchor.specs.Metadata.{terminated}
use Rattle.cbfs_anchor.proofs.Hashes.{cell_counts, cell_too_long}
use Rattle.cbfs_anchor.proofs.metadata.hash_cell.Goals as goal

pub returns-in_ok-hash_terminated-clause-hashed : goal.returns-in_ok-hash_terminated-clause-hashed
returns-in_ok-hash_terminated-clause-hashed g c = λ h stands message holds.
    let its = c.args.cell.now in
    let x = bytes_in c.args.region c.args.paged.now.device.content in
    let first = c.in_ok-fault.ensures.calls.read.device in
    let hashed = rw (first.unchanged h) at (c.in_ok-hash_terminated.ensures.hashed (honest_still first.calls.same_honesty h)) in (
      terminated (name_end its.head) its.head.offset (drop its.at x),
      hashed message holds,
      cell_counts c.args.demand c.args.algorithm x c.args.region.size its (record { checks = c.requires.cell.checks; used = sym c.if-is_free.ensures }) stands (sym c.in_default.is ∙ c.in_ok-fault.ensures.fault h stands) c.if-cell-le-LONGEST_METADATA.true,
    )

pub returns-else-cell-le-LONGEST_METADATA-clause-hashed : goal.returns-else-cell-le-LONGEST_METADATA-clause-hashed
returns-else-cell-le-LONGEST_METADATA-clause-hashed g c = λ h stands message holds. (
  [],
  subst (Holds c.args.hasher.now) (sym (append-nil message)) holds,
  cell_too_long c.args.demand c.args.algorithm (bytes_in c.args.region c.args.paged.now.device.content) c.args.region.size c.args.cell.now (record { checks = c.requires.cell.checks; used = sym c.if-is_free.ensures }) stands (sym c.in_default.is ∙ c.in_ok-fault.ensures.fault h stands) c.if-cell-le-LONGEST_METADATA.false,
)

pub returns-then-is_free-clause-hashed : goal.returns-then-is_free-clause-hashed
returns-then-is_free-clause-hashed g c = search rules

pub hash_terminated-requires-clause-short : goal.hash_terminated-requires-clause-short
hash_terminated-requires-clause-short g c = search rules
