use Rattle.std.proofs.Common.{arith, le_refl}
use Rattle.flash_device.proofs.WindowLemmas.{HasRead-within}
use Rattle.std.proofs.lemmas.Result.{err_from_is_err_and}
use Rattle.cbfs_walk.proofs.Checks.{content_fits}
use Rattle.cbfs_walk.proofs.ReadSequences.{Passes-then, Passes-answers}
use Rattle.cbfs_walk.proofs.Digests.{read_to_content}
use Rattle.cbfs_walk.proofs.hashes.check_hash.Goals as goal

pub returns-in_err-stored-in-Some-clause-calls : goal.returns-in_err-stored-in-Some-clause-calls
returns-in_err-stored-in-Some-clause-calls g c =
    rw (err_from_is_err_and c.from_residual-in_err-stored-in-Some.result c.from_residual-in_err-stored-in-Some.ensures.1).1
    (Passes-answers (read_to_content c.args.cell.now _ _ _ c.in-Some.is c.in_ok-at.ensures.attribute c.in_ok-at.ensures.first.passed c.in_err-stored-in-Some.ensures.passed) (omega (arith, (content_fits c.args.region.size c.args.cell.now c.requires.cell.checks).in_cell)))

pub returns-in-None-2-clause-unread : goal.returns-in-None-2-clause-unread
returns-in-None-2-clause-unread g c = λ told.
    HasRead-within _ _ 0 _ _ (omega arith) (read_to_content c.args.cell.now _ _ _ c.in-Some.is c.in_ok-at.ensures.attribute c.in_ok-at.ensures.first.passed c.in_ok-stored-in-Some.ensures.passed).read

pub returns-in-None-2-clause-calls : goal.returns-in-None-2-clause-calls
returns-in-None-2-clause-calls g c =
    Passes-answers (read_to_content c.args.cell.now _ _ _ c.in-Some.is c.in_ok-at.ensures.attribute c.in_ok-at.ensures.first.passed c.in_ok-stored-in-Some.ensures.passed) (omega (arith, (content_fits c.args.region.size c.args.cell.now c.requires.cell.checks).in_cell))

pub returns-in_err-computed-in-Some-2-clause-calls : goal.returns-in_err-computed-in-Some-2-clause-calls
returns-in_err-computed-in-Some-2-clause-calls g c =
    let first = read_to_content c.args.cell.now _ _ _ c.in-Some.is c.in_ok-at.ensures.attribute c.in_ok-at.ensures.first.passed c.in_ok-stored-in-Some.ensures.passed in
    rw (err_from_is_err_and c.from_residual-in_err-computed-in-Some-2.result c.from_residual-in_err-computed-in-Some-2.ensures.1).1
    (Passes-answers (Passes-then first c.in_err-computed-in-Some-2.ensures.passed (le_refl _) (le_refl _) (le_refl _)) (omega (arith, (content_fits c.args.region.size c.args.cell.now c.requires.cell.checks).in_cell)))

pub returns-in_ok-computed-in-Some-2-clause-calls : goal.returns-in_ok-computed-in-Some-2-clause-calls
returns-in_ok-computed-in-Some-2-clause-calls g c =
    let first = read_to_content c.args.cell.now _ _ _ c.in-Some.is c.in_ok-at.ensures.attribute c.in_ok-at.ensures.first.passed c.in_ok-stored-in-Some.ensures.passed in
    Passes-answers (Passes-then first c.in_ok-computed-in-Some-2.ensures.passed (le_refl _) (le_refl _) (le_refl _)) (omega (arith, (content_fits c.args.region.size c.args.cell.now c.requires.cell.checks).in_cell))
