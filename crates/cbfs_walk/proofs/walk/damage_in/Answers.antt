use Rattle.std.proofs.lemmas.Grind.{common_steps}
use Rattle.std.proofs.Common.{arith, sym, le_refl, ◌∙◌}
use Rattle.flash_format.proofs.EntryLaws.{present_by}
use Rattle.flash_device.proofs.DeviceLemmas.{honest_still}
use Rattle.cbfs_walk.proofs.Parts.{length-region}
use Rattle.cbfs_walk.proofs.Checks.{entry_checked}
use Rattle.cbfs_walk.proofs.CellNames.{field_used}
use Rattle.cbfs_walk.proofs.ReadSequences.{ReadsIn-refused, Passes-none, Passes-then, Passes-within}
use Rattle.cbfs_walk.proofs.walk.damage_in.Goals as goal

pub returns-then-is_free : goal.returns-then-is_free
returns-then-is_free g c = record {
  passed = Passes-within (Passes-none c.args.region c.args.cell.now.at _) (le_refl _) (omega arith);
  value = λ h front. grind (arith, common_steps, present_by) ∙ entry_checked _ c.args.region.size c.args.cell.now (length-region c.args.region _ c.requires.region.inside) c.requires.cell front;
}

pub returns-in_err-has_name_end : goal.returns-in_err-has_name_end
returns-in_err-has_name_end g c =
    let field = field_used _ _ c.requires.cell (sym c.if-is_free.ensures) in
    ReadsIn-refused _ _ c.from_residual.ensures.1 (Passes-within c.in_err-has_name_end.ensures.passed (omega arith) (omega arith))

pub returns-then-not-branch : goal.returns-then-not-branch
returns-then-not-branch g c =
    let field = field_used _ _ c.requires.cell (sym c.if-is_free.ensures) in
    record { passed = Passes-within c.in_ok-has_name_end.ensures.passed (omega arith) (omega arith); value = λ h front. grind (arith, common_steps, present_by, honest_still) ∙ entry_checked _ c.args.region.size c.args.cell.now (length-region c.args.region _ c.requires.region.inside) c.requires.cell front }

pub returns-in_err-are_well_formed : goal.returns-in_err-are_well_formed
returns-in_err-are_well_formed g c =
    let field = field_used _ _ c.requires.cell (sym c.if-is_free.ensures) in
    ReadsIn-refused _ _ c.from_residual-in_err-are_well_formed.ensures.1 (Passes-then c.in_ok-has_name_end.ensures.passed c.in_err-are_well_formed.ensures.passed (omega arith) (omega arith) (omega arith))

pub returns-then-not-branch-2 : goal.returns-then-not-branch-2
returns-then-not-branch-2 g c =
    let field = field_used _ _ c.requires.cell (sym c.if-is_free.ensures) in
    record { passed = Passes-then c.in_ok-has_name_end.ensures.passed c.in_ok-are_well_formed.ensures.passed (omega arith) (omega arith) (omega arith); value = λ h front. grind (arith, common_steps, present_by, honest_still) ∙ entry_checked _ c.args.region.size c.args.cell.now (length-region c.args.region _ c.requires.region.inside) c.requires.cell front }

pub returns : goal.returns
returns g c =
    let field = field_used _ _ c.requires.cell (sym c.if-is_free.ensures) in
    record { passed = Passes-then c.in_ok-has_name_end.ensures.passed c.in_ok-are_well_formed.ensures.passed (omega arith) (omega arith) (omega arith); value = λ h front. grind (arith, common_steps, present_by, honest_still) ∙ entry_checked _ c.args.region.size c.args.cell.now (length-region c.args.region _ c.requires.region.inside) c.requires.cell front }
