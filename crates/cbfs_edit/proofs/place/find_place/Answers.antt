use Rattle.std.proofs.Common.{inl, refl, arith, rules}
use Rattle.std.proofs.lemmas.Result.{err_from_is_err_and}
use Rattle.flash_device.specs.Regions.{bytes_in}
use Rattle.flash_device.proofs.DeviceLemmas.{length-bytes_in}
use Rattle.cbfs_edit.specs.Places.{placing_in}
use Rattle.cbfs_edit.specs.Searches.{IsSurvey, place_by}
use Rattle.cbfs_edit.proofs.Searches.{surveying_start, surveying_more, searched, surveying_err, nothing_passed, place_searched}
use Rattle.cbfs_edit.proofs.place.find_place.Goals as goal

pub loop-cell-init : goal.loop-cell-init
loop-cell-init g c =
    let r = c.args.region in
    let x = bytes_in r c.args.paged.now.device.content in
    rw c.new-walk.ensures (surveying_start r (λ s at cells. place_by c.args.name.now c.args.wanted r.size s cells) (λ x. placing_in x c.args.name.now c.args.wanted) (IsSurvey c.args.wanted r.size) nothing_passed c.args.paged.now
    (record { spot = c.requires.spot; small = omega (arith, c.requires.region.inside, c.requires.region.below); here = refl; row = inl refl; place = tt })
    (place_searched x c.args.name.now c.args.wanted r.size (length-bytes_in r _ c.requires.region.inside)))

pub loop-cell-preserved : goal.loop-cell-preserved
loop-cell-preserved g c =
    surveying_more c.args.region (λ s at cells. place_by c.args.name.now c.args.wanted c.args.region.size s cells) _ (IsSurvey c.args.wanted c.args.region.size) c.loop-cell.walk c.loop-cell.survey _ _ c.requires.region c.loop-cell.invariant c.in-Cell.cell _ c.in_ok-survey-in-Cell.survey _ _ _
    (rw c.in-Cell.is at c.in_ok-cell.ensures.cell) (rw c.in-Cell.is at c.in_ok-cell.ensures.calls) refl c.in_ok-survey-in-Cell.ensures.calls.read (rw c.in-Cell.is at c.in_ok-cell.ensures.answer) (rw c.in-Cell.is at c.in_ok-cell.ensures.moved) c.in_ok-survey-in-Cell.ensures.before c.in_ok-survey-in-Cell.ensures.passed

pub returns-in-Tail : goal.returns-in-Tail
returns-in-Tail g c =
    searched c.args.region (λ s at cells. place_by c.args.name.now c.args.wanted c.args.region.size s cells) _ _ c.loop-cell.walk c.loop-cell.survey _ _ c.requires.region c.loop-cell.invariant _ c.in-Tail.is _ _ c.answer_of.result
    c.answer_of.ensures.fault c.answer_of.ensures.fits (c.answer_of.ensures.is c.args.name.now) c.in_ok-cell.ensures.calls c.in_ok-cell.ensures.answer

pub returns-in_err-cell : goal.returns-in_err-cell
returns-in_err-cell g c =
    let told = err_from_is_err_and c.from_residual.result c.from_residual.ensures.1 in
    rw (told.1, told.2) (record {
      after = search rules;
      no_source = search rules;
      found = search rules;
      answer = surveying_err c.args.region (λ s at cells. place_by c.args.name.now c.args.wanted c.args.region.size s cells) _ _ c.loop-cell.walk c.loop-cell.survey _ _ c.requires.region c.loop-cell.invariant c.in_err-cell.field-0.0 c.in_err-cell.ensures.answer;
    })
