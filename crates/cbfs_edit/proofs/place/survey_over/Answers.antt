use Rattle.std.proofs.Common.{◌∙◌, ap, sym}
use Rattle.flash_format.specs.Head.{is_free}
use Rattle.cbfs_edit.proofs.Searches.{free_step, place_step}
use Rattle.cbfs_edit.proofs.place.survey_over.Goals as goal

pub returns-then-is_free-clause-passed : goal.returns-then-is_free-clause-passed
returns-then-is_free-clause-passed g c = λ honest stands cells.
    let b = c.cells_stand_in_their_image.ensures c.args.region _ c.args.cell.now c.requires.cell.region.inside c.requires.cell.cell stands in
    free_step c.args.name.now c.args.wanted c.args.region.size c.args.survey _ cells c.args.cell.now.span (ap is_free b.head ∙ sym c.is_free.ensures ∙ c.if-is_free.true) b.span

pub returns-clause-passed : goal.returns-clause-passed
returns-clause-passed g c = λ honest stands cells.
    let b = c.cells_stand_in_their_image.ensures c.args.region _ c.args.cell.now c.requires.cell.region.inside c.requires.cell.cell stands in
    place_step c.args.name.now c.args.wanted c.args.region.size c.args.survey _ cells c.args.cell.now.span _ _ (ap is_free b.head ∙ sym c.is_free.ensures ∙ c.if-is_free.false) b.span (c.in_ok-named.ensures.named honest stands) c.place_so_far-place.ensures.is
