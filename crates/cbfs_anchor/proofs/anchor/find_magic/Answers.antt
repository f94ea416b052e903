use Rattle.std.proofs.Common.{◌≡◌, ◌+◌, ◌-◌, arith, le_refl}
use Rattle.std.specs.Prelude.{slice_range}
use Rattle.flash_device.specs.Regions.{bytes_in}
use Rattle.cbfs_walk.proofs.Parts.{length-region}
use Rattle.cbfs_walk.proofs.ReadSequences.{Passes-within, ReadsIn-refused}
use Rattle.cbfs_walk.proofs.AttributeScans.{scanned, scanning_start, scanning_more, told_before}
use Rattle.cbfs_anchor.proofs.Magics.{no_magic_more, no_magic_left, magic_found}
use Rattle.cbfs_anchor.proofs.anchor.find_magic.Goals as goal

pub loop-at-init : goal.loop-at-init
loop-at-init g c = scanning_start c.args.range 0 c.size-end.result c.args.paged.now _ (omega arith) (λ h k above below. absurd (omega (arith, below)))

pub loop-at-preserved : goal.loop-at-preserved
loop-at-preserved g c =
    let passes = rw c.in_ok-bytes.was at c.piece_in.follows.holds-at-none in
    scanning_more c.loop-at.invariant 249 _ _ (omega (arith, c.loop-at-test.true)) passes (λ h before.
    let x = bytes_in c.args.range c.args.paged.now.device.content in
    let same = told_before c.loop-at.invariant (λ image. c.in_ok-bytes.bytes.now ≡ slice_range (bytes_in c.args.range image) c.loop-at.at (c.loop-at.at + 256)) c.in_ok-bytes.ensures.read h in
    no_magic_more x c.loop-at.at 256 (omega (arith, length-region c.args.range c.args.paged.now.device.content c.requires.inside, c.loop-at-test.true, c.size-end.ensures)) before (rw same at c.in-None.ensures) (omega arith))

pub returns-in-Some-clause-magic : goal.returns-in-Some-clause-magic
returns-in-Some-clause-magic g c =
    let passes = rw c.in_ok-bytes.was at c.piece_in.follows.holds-at-none in
    record {
      passed = Passes-within (scanned c.loop-at.invariant passes) (le_refl _) (omega (arith, c.size-end.ensures));
      value = λ h.
          let x = bytes_in c.args.range c.args.paged.now.device.content in
          let same = told_before c.loop-at.invariant (λ image. c.in_ok-bytes.bytes.now ≡ slice_range (bytes_in c.args.range image) c.loop-at.at (c.loop-at.at + 256)) c.in_ok-bytes.ensures.read h in
          magic_found x c.loop-at.at 256 (omega (arith, length-region c.args.range c.args.paged.now.device.content c.requires.inside, c.loop-at-test.true, c.size-end.ensures)) (c.loop-at.invariant.asked h) c.in-Some.place (rw same at c.in-Some.ensures);
    }

pub returns-in_err-bytes-clause-magic : goal.returns-in_err-bytes-clause-magic
returns-in_err-bytes-clause-magic g c = ReadsIn-refused _ _ c.from_residual.ensures.1 (Passes-within (scanned c.loop-at.invariant (rw c.in_err-bytes.was at c.piece_in.follows.holds-at-none)) (le_refl _) (omega (arith, c.size-end.ensures)))

pub returns-in_err-bytes-2-clause-magic : goal.returns-in_err-bytes-2-clause-magic
returns-in_err-bytes-2-clause-magic g c = ReadsIn-refused _ _ c.from_residual-in_err-bytes-2.ensures.1 (Passes-within (scanned c.loop-at.invariant (rw c.in_err-bytes-2.was at c.piece_in-2.follows.holds-at-none)) (le_refl _) (omega (arith, c.size-end.ensures)))

pub returns-in-Some-find-clause-magic : goal.returns-in-Some-find-clause-magic
returns-in-Some-find-clause-magic g c =
    let passes = rw c.in_ok-bytes-2.was at c.piece_in-2.follows.holds-at-none in
    let n = c.size-end.result - c.loop-at.at in
    record {
      passed = Passes-within (scanned c.loop-at.invariant passes) (le_refl _) (omega (arith, c.size-end.ensures));
      value = λ h.
          let x = bytes_in c.args.range c.args.paged.now.device.content in
          let same = told_before c.loop-at.invariant (λ image. c.in_ok-bytes-2.bytes.now ≡ slice_range (bytes_in c.args.range image) c.loop-at.at (c.loop-at.at + n)) c.in_ok-bytes-2.ensures.read h in
          magic_found x c.loop-at.at n (omega (arith, length-region c.args.range c.args.paged.now.device.content c.requires.inside, c.loop-at.invariant.high, c.size-end.ensures)) (c.loop-at.invariant.asked h) c.in-Some-find.place (rw same at c.in-Some-find.ensures);
    }

pub returns-in-None-find-clause-magic : goal.returns-in-None-find-clause-magic
returns-in-None-find-clause-magic g c =
    let passes = rw c.in_ok-bytes-2.was at c.piece_in-2.follows.holds-at-none in
    let n = c.size-end.result - c.loop-at.at in
    record {
      passed = Passes-within (scanned c.loop-at.invariant passes) (le_refl _) (omega (arith, c.size-end.ensures));
      value = λ h.
          let x = bytes_in c.args.range c.args.paged.now.device.content in
          let same = told_before c.loop-at.invariant (λ image. c.in_ok-bytes-2.bytes.now ≡ slice_range (bytes_in c.args.range image) c.loop-at.at (c.loop-at.at + n)) c.in_ok-bytes-2.ensures.read h in
          no_magic_left x c.loop-at.at n (omega (arith, length-region c.args.range c.args.paged.now.device.content c.requires.inside, c.loop-at.invariant.high, c.size-end.ensures)) (c.loop-at.invariant.asked h) (rw same at c.in-None-find.ensures) (omega (arith, length-region c.args.range c.args.paged.now.device.content c.requires.inside, c.loop-at.invariant.high, c.size-end.ensures));
    }
