use Rattle.std.proofs.lemmas.Grind.{common_steps}
use Rattle.std.proofs.Common.{◌∙◌, sym, refl, arith}
use Rattle.std.proofs.lemmas.List.{drop_all}
use Rattle.fmd_lang.proofs.NameLemmas.{any-from}
use Rattle.fmd_lang.proofs.names.has_fmap.Goals as goal

pub loop-name-preserved : goal.loop-name-preserved
loop-name-preserved c = grind (arith, common_steps, any-from)

pub returns-then-eq : goal.returns-then-eq
returns-then-eq c = grind (arith, common_steps, any-from)

pub returns : goal.returns
returns c = sym (c.loop-name.invariant ∙ rw (drop_all c.loop-name.name-index c.args.names.now c.loop-name-test.false) refl)
