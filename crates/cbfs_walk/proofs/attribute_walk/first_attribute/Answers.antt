use Rattle.std.proofs.lemmas.Grind.{common_steps}
use Rattle.std.proofs.Common.{ap, ◌∙◌, ◌+◌, arith, le_refl, Some, None}
use Rattle.std.proofs.lemmas.Bool.{eq-eqb, ne_eqb}
use Rattle.std.proofs.lemmas.Result.{err_from_is_err_and}
use Rattle.cbfs_walk.proofs.Checks.{content_fits}
use Rattle.cbfs_walk.proofs.CellNames.{has_field}
use Rattle.cbfs_walk.proofs.ReadSequences.{Passes-then}
use Rattle.cbfs_walk.proofs.AttributeScans.{scanning_start, lies_still, asked_more, asked_here, data_at, data_with, first_more, first_here, first_none, first_is}
use Rattle.cbfs_walk.proofs.attribute_walk.first_attribute.Goals as goal

pub loop-head-init : goal.loop-head-init
loop-head-init g c = grind (arith, common_steps, has_field, scanning_start)

pub listed_at-requires : goal.listed_at-requires
listed_at-requires g c = record { region = lies_still c.loop-head.invariant c.requires.region; inside = omega (arith, (content_fits c.args.region.size c.args.cell.now c.requires.cell.checks).in_region, c.from.ensures) }

pub loop-head-preserved : goal.loop-head-preserved
loop-head-preserved g c =
    let told = rw c.in-Attribute.is at c.in_ok-head.ensures.listed in
    asked_more (data_with c.args.tag) c.args.region _ _ c.loop-head.at _ _ _ c.loop-head.invariant told c.in-Attribute.head c.from-at.result _ c.from-at.ensures (rw c.in-Attribute.is at c.in_ok-head.ensures.attribute) c.in_ok-head.ensures.passes
    (λ y. first_more c.args.tag c.in-Attribute.head y (ne_eqb _ _ c.if-head-tag.false))

pub returns-then-head-tag-clause-first : goal.returns-then-head-tag-clause-first
returns-then-head-tag-clause-first g c =
    let told = rw c.in-Attribute.is at c.in_ok-head.ensures.listed in
    let inside = rw c.in-Attribute.is at c.in_ok-head.ensures.attribute in
    record {
      passed = Passes-then c.loop-head.invariant.passed c.in_ok-head.ensures.passes (omega arith) (le_refl _) (le_refl _);
      value = λ h. first_is _ c.args.tag c.args.cell.now _ _ _ (ap (λ n. c.args.cell.now.at + n) (c.from-2.ensures ∙ c.name_end.ensures)) (ap (λ n. c.args.cell.now.at + n) c.from.ensures)
          (asked_here (data_with c.args.tag) c.args.region _ _ c.loop-head.at _ _ _ c.loop-head.invariant told (λ x. Some (data_at x (c.loop-head.at, c.in-Attribute.head))) (λ x. first_here c.args.tag c.loop-head.at _ c.in-Attribute.head x inside.inside (eq-eqb _ _ c.if-head-tag.true)) h);
    }

pub returns-in_default-clause-first : goal.returns-in_default-clause-first
returns-in_default-clause-first g c = record {
  passed = Passes-then c.loop-head.invariant.passed c.in_ok-head.ensures.passes (omega arith) (le_refl _) (omega (arith, c.loop-head.invariant.high));
  value = λ h. first_is _ c.args.tag c.args.cell.now _ _ _ (ap (λ n. c.args.cell.now.at + n) (c.from-2.ensures ∙ c.name_end.ensures)) (ap (λ n. c.args.cell.now.at + n) c.from.ensures)
      (asked_here (data_with c.args.tag) c.args.region _ _ c.loop-head.at _ _ _ c.loop-head.invariant c.in_ok-head.ensures.listed (λ x. None) (λ x. first_none c.args.tag c.in_ok-head.field-0 _ c.in_default.not-Attribute) h);
}

pub returns-in_err-head-clause-first : goal.returns-in_err-head-clause-first
returns-in_err-head-clause-first g c =
    rw (err_from_is_err_and c.from_residual.result c.from_residual.ensures.1).1 (record { passed = Passes-then c.loop-head.invariant.passed c.in_err-head.ensures.passes (omega arith) (le_refl _) (omega (arith, c.loop-head.invariant.high)); value = λ h. tt })
