use Rattle.std.proofs.Common.{sym, refl, Ok, Err, Some, None, ap, ◌∙◌, ◌-◌, arith, inr, eqb, ◌<◌, rules}
use Rattle.std.proofs.lemmas.Grind.{common_steps}
use Rattle.std.proofs.lemmas.Bool.{and_left, and_right}
use Rattle.flash_format.specs.Head.{extent_of}
use Rattle.std.specs.Prelude.{is_some, not, drop, Option}
use Rattle.flash_format.specs.declared.head.Head.{Head}
use Rattle.flash_format.specs.Entry.{absent, damaged, front}
use Rattle.flash_device.specs.Regions.{bytes_in}
use Rattle.flash_device.proofs.DeviceLemmas.{honest_still}
use Rattle.cbfs_walk.specs.Shapes.{has_bad_size}
use Rattle.cbfs_walk.proofs.Parts.{length-region, length-rest}
use Rattle.cbfs_walk.proofs.Checks.{checked_extent, entry_absent, entry_present}
use Rattle.cbfs_walk.proofs.StepResults.{answer_shape, answer_end, answer_absent, answer_entry, answer_checked, cell_reads, cell_gives}
use Rattle.cbfs_walk.specs.declared.walk.Step.TheVariants as steps
use Rattle.cbfs_walk.specs.declared.walk.WalkFault.TheVariants as faults
use Rattle.std.proofs.lemmas.Result.{err_from_is_err_and}
use Rattle.cbfs_walk.proofs.walk.answer_at.Goals as goal

pub returns-then-has_bad_size-clause-answer : goal.returns-then-has_bad_size-clause-answer
returns-then-has_bad_size-clause-answer g c = grind (arith, common_steps, answer_shape, length-region)

pub returns-then-at-size-clause-answer : goal.returns-then-at-size-clause-answer
returns-then-at-size-clause-answer g c = grind (arith, common_steps, answer_end, length-region)

pub returns-in-None-clause-answer : goal.returns-in-None-clause-answer
returns-in-None-clause-answer g c = grind (arith, common_steps, answer_absent, length-region)

pub returns-in-None-2-clause-answer : goal.returns-in-None-2-clause-answer
returns-in-None-2-clause-answer g c = λ h.
    let len = length-region c.args.region c.args.paged.now.device.content c.requires.reach.region.inside in
    let inside : c.args.at < c.args.region.size = grind (arith, common_steps) in
    let none = rw c.in-None.is at (c.in_ok-front_at.ensures.value h) in
    let later = and_left (eqb c.args.at 0) (not (is_some (front (drop c.args.at (bytes_in c.args.region c.args.paged.now.device.content))))) (grind (arith, common_steps)) in
    inr (answer_entry _ c.args.at _ absent len (c.if-has_bad_size.ensures ∙ ap has_bad_size c.size.ensures) inside (entry_absent _ none) later)

pub returns-in-Err-clause-answer : goal.returns-in-Err-clause-answer
returns-in-Err-clause-answer g c = λ h.
    let image = c.args.paged.now.device.content in
    let inside : c.args.at < c.args.region.size = grind (arith, common_steps) in
    let head = rw c.in-Some.is at (c.in_ok-front_at.ensures.value h) in
    let here = entry_present _ c.in-Some.head _ _ head (length-rest c.args.region image c.args.at c.requires.reach.region.inside)
    (c.in-Err.ensures ∙ ap (λ n. extent_of c.in-Some.head (n - c.args.at)) c.size-3.ensures) in
    inr (answer_entry _ c.args.at _ (damaged c.in-Err.kind) (length-region c.args.region image c.requires.reach.region.inside) (c.if-has_bad_size.ensures ∙ ap has_bad_size c.size.ensures) inside here (and_right _ _ (ap (λ (o : Option Head). not (is_some o)) (sym head))))

pub damage_in-requires : goal.damage_in-requires
damage_in-requires g c = record { region = search rules; cell = checked_extent _ _ c.in-Ok.extent (c.in-Ok.ensures ∙ ap (λ n. extent_of c.in-Some.head (n - c.args.at)) c.size-3.ensures) }

pub returns-in_err-kind-in-Ok-clause-cost : goal.returns-in_err-kind-in-Ok-clause-cost
returns-in_err-kind-in-Ok-clause-cost g c =
    let checks = checked_extent _ _ c.in-Ok.extent (c.in-Ok.ensures ∙ ap (λ n. extent_of c.in-Some.head (n - c.args.at)) c.size-3.ensures) in
    let told = err_from_is_err_and c.from_residual-in_err-kind-in-Ok.result c.from_residual-in_err-kind-in-Ok.ensures.1 in
    rw (told.1, told.2) (cell_reads c.args.region (record { at = c.args.at; head = c.in-Some.head; span = c.in-Ok.extent.span }) _ _ _ (Err faults.Device) checks tt c.in_ok-front_at.ensures.passed c.in_err-kind-in-Ok.ensures.passed)

pub returns-in-Some-2-clause-cost : goal.returns-in-Some-2-clause-cost
returns-in-Some-2-clause-cost g c =
    let checks = checked_extent _ _ c.in-Ok.extent (c.in-Ok.ensures ∙ ap (λ n. extent_of c.in-Some.head (n - c.args.at)) c.size-3.ensures) in
    cell_reads c.args.region (record { at = c.args.at; head = c.in-Some.head; span = c.in-Ok.extent.span }) _ _ _ (Err (faults.Damaged c.args.at c.in-Some-2.kind)) checks tt c.in_ok-front_at.ensures.passed c.in_ok-kind-in-Ok.ensures.passed

pub returns-in-None-3-clause-cost : goal.returns-in-None-3-clause-cost
returns-in-None-3-clause-cost g c =
    let checks = checked_extent _ _ c.in-Ok.extent (c.in-Ok.ensures ∙ ap (λ n. extent_of c.in-Some.head (n - c.args.at)) c.size-3.ensures) in
    cell_reads c.args.region (record { at = c.args.at; head = c.in-Some.head; span = c.in-Ok.extent.span }) _ _ _ (Ok (steps.Cell (record { at = c.args.at; head = c.in-Some.head; span = c.in-Ok.extent.span }))) checks refl c.in_ok-front_at.ensures.passed c.in_ok-kind-in-Ok.ensures.passed

pub returns-in-None-3-clause-cell : goal.returns-in-None-3-clause-cell
returns-in-None-3-clause-cell g c =
    let checks = checked_extent _ _ c.in-Ok.extent (c.in-Ok.ensures ∙ ap (λ n. extent_of c.in-Some.head (n - c.args.at)) c.size-3.ensures) in
    cell_gives c.args.region.size (record { at = c.args.at; head = c.in-Some.head; span = c.in-Ok.extent.span }) (Ok (steps.Cell (record { at = c.args.at; head = c.in-Some.head; span = c.in-Ok.extent.span }))) checks (c.if-has_bad_size.ensures ∙ ap has_bad_size c.size.ensures) c.requires.aligned c.requires.reach.inside refl

pub returns-in-Some-2-clause-answer : goal.returns-in-Some-2-clause-answer
returns-in-Some-2-clause-answer g c = λ h.
    let inside : c.args.at < c.args.region.size = grind (arith, common_steps) in
    let damage = rw (c.front_at.ensures.passed.read.device.unchanged h, c.in-Some-2.is) at (c.in_ok-kind-in-Ok.ensures.value (honest_still c.front_at.ensures.passed.read.device.calls.same_honesty h)) in
    inr (answer_checked _ _ (record { at = c.args.at; head = c.in-Some.head; span = c.in-Ok.extent.span }) (Some c.in-Some-2.kind) (length-region c.args.region _ c.requires.reach.region.inside) (c.if-has_bad_size.ensures ∙ ap has_bad_size c.size.ensures) inside (rw c.in-Some.is at (c.in_ok-front_at.ensures.value h)) damage)

pub returns-in-None-3-clause-answer : goal.returns-in-None-3-clause-answer
returns-in-None-3-clause-answer g c = λ h.
    let inside : c.args.at < c.args.region.size = grind (arith, common_steps) in
    let damage = rw (c.front_at.ensures.passed.read.device.unchanged h, c.in-None-3.is) at (c.in_ok-kind-in-Ok.ensures.value (honest_still c.front_at.ensures.passed.read.device.calls.same_honesty h)) in
    inr (answer_checked _ _ (record { at = c.args.at; head = c.in-Some.head; span = c.in-Ok.extent.span }) None (length-region c.args.region _ c.requires.reach.region.inside) (c.if-has_bad_size.ensures ∙ ap has_bad_size c.size.ensures) inside (rw c.in-Some.is at (c.in_ok-front_at.ensures.value h)) damage)
