use Rattle.std.proofs.Common.{◌+◌, ◌*◌, ◌∙◌, ap, drop, sym, arith}
use Rattle.std.specs.List.{position_from}
use Rattle.std.specs.Prelude.{◌-◌, length, slice_range}
use Rattle.flash_device.specs.Regions.{bytes_in}
use Rattle.flash_device.proofs.DeviceLemmas.{length-bytes_in}
use Rattle.flash_device.proofs.WindowLemmas.{HasRead-then}
use Rattle.check_findings.specs.RegionFindings.{is_filled}
use Rattle.check_findings.proofs.RegionLemmas.Tails.{filled_next, none_left}
use Rattle.check_findings.proofs.region.tail.find_filled.Goals as goal

pub loop-i-preserved : goal.loop-i-preserved
loop-i-preserved g c =
    let had = c.loop-i.invariant in
    let piece = rw c.in_ok-bytes.was at c.piece.follows.holds-at-none in
    let at = c.args.at in
    let k = 4096 * c.loop-i.i in
    let x = bytes_in c.args.region c.args.paged.now.device.content in
    record {
      read = HasRead-then _ 1 0 _ _ _ had.read piece.read;
      blank = λ h.
          had.blank h ∙ rw (sym c.first_filled.ensures ∙ c.in_default.is) at (filled_next c.args.region at k c.min-n.result _ _ _ c.in_ok-bytes.bytes.now c.requires.region had.read (omega (arith, c.loop-i-test.true, c.saturating_sub-len.ensures, c.size.ensures))
          (omega (arith, c.min-n.ensures, c.saturating_sub-len.ensures, c.size.ensures)) (rw c.start.ensures at c.in_ok-bytes.ensures.read) h)
          ∙ ap (λ m. position_from is_filled (at + m) (drop m (slice_range x at (length x - 4)))) {x = k + 4096} {y = 4096 * (c.loop-i.i + 1)} (omega arith);
    }

pub returns-in-Some-clause-found : goal.returns-in-Some-clause-found
returns-in-Some-clause-found g c = λ h.
    let had = c.loop-i.invariant in
    let at = c.args.at in
    let k = 4096 * c.loop-i.i in
    sym (had.blank h ∙ rw (sym c.first_filled.ensures ∙ c.in-Some.is) at (filled_next c.args.region at k c.min-n.result _ _ _ c.in_ok-bytes.bytes.now c.requires.region had.read (omega (arith, c.loop-i-test.true, c.saturating_sub-len.ensures, c.size.ensures))
    (omega (arith, c.min-n.ensures, c.saturating_sub-len.ensures, c.size.ensures)) (rw c.start.ensures at c.in_ok-bytes.ensures.read) h))

pub returns-clause-found : goal.returns-clause-found
returns-clause-found g c = λ h.
    let r = c.args.region in
    let image = c.args.paged.now.device.content in
    sym (c.loop-i.invariant.blank h ∙ none_left (bytes_in r image) c.args.at (4096 * c.loop-i.i)
    (omega (arith, length-bytes_in r image c.requires.region.inside, c.loop-i-test.false, c.saturating_sub-len.ensures, c.size.ensures)))
