use Rattle.std.proofs.Common.{◌∙◌, arith, le_refl, sym}
use Rattle.flash_device.proofs.DeviceLemmas.{LiesOn-calls}
use Rattle.cbfs_walk.proofs.AttributeScans.{lies_still, scanned, scanning_start}
use Rattle.cbfs_walk.proofs.ReadSequences.{Passes-then, ReadsIn-refused}
use Rattle.check_findings.proofs.RegionLemmas.AttributeLists.{asked_end, asked_fault, asked_next, asks_start}
use Rattle.check_findings.proofs.region.attributes.listed_fault.Goals as goal

pub loop-head-init : goal.loop-head-init
loop-head-init g c = scanning_start c.args.region c.args.from c.args.end _ _ c.requires.order (λ h. asks_start c.args.kind _)

pub head_at-requires : goal.head_at-requires
head_at-requires g c = record { region = lies_still c.loop-head.invariant c.requires.reach.region; inside = c.requires.reach.inside }

pub fault_at-requires : goal.fault_at-requires
fault_at-requires g c =
    let inside = rw c.in-Some.is at c.in_ok-head.ensures.inside in
    record {
      reach = record { region = LiesOn-calls c.in_ok-head.ensures.passes.read.device.calls (lies_still c.loop-head.invariant c.requires.reach.region); inside = omega (arith, inside.1, c.requires.reach.inside) };
      least = inside.0;
    }

pub loop-head-preserved : goal.loop-head-preserved
loop-head-preserved g c =
    let told = c.in_ok-head.ensures in
    let inside = rw c.in-Some.is at told.inside in
    asked_next c.loop-head.invariant c.in-Some.head c.in_ok-fault-in-Some.fault c.head_at.new.paged inside.1 told.passes (λ h. rw c.in-Some.is at (told.head h)) c.in_ok-fault-in-Some.ensures.value
    c.with-earlier.result c.from-at.result _ c.from-at.ensures c.in_ok-fault-in-Some.ensures.passed (sym c.is_some.ensures ∙ c.if-is_some.false) c.with-earlier.ensures

pub returns-then-is_some : goal.returns-then-is_some
returns-then-is_some g c =
    let told = c.in_ok-head.ensures in
    let inside = rw c.in-Some.is at told.inside in
    record {
      passed = Passes-then c.loop-head.invariant.passed (Passes-then told.passes c.in_ok-fault-in-Some.ensures.passed (le_refl _) (le_refl _) (le_refl _)) (le_refl _) (le_refl _) inside.1;
      value = asked_fault c.loop-head.invariant c.in-Some.head c.in_ok-fault-in-Some.fault c.head_at.new.paged inside.1 told.passes (λ h. rw c.in-Some.is at (told.head h)) c.in_ok-fault-in-Some.ensures.value (sym c.is_some.ensures ∙ c.if-is_some.true);
    }

pub returns-in-None : goal.returns-in-None
returns-in-None g c = record {
  passed = scanned c.loop-head.invariant c.in_ok-head.ensures.passes;
  value = λ k. c.missing_fault.ensures ∙ asked_end c.loop-head.invariant (λ h. rw c.in-None.is at (c.in_ok-head.ensures.head h)) k;
}

pub returns-in_err-head : goal.returns-in_err-head
returns-in_err-head g c = ReadsIn-refused _ _ c.from_residual.ensures.1 (scanned c.loop-head.invariant c.in_err-head.ensures.passes)

pub returns-in_err-fault-in-Some : goal.returns-in_err-fault-in-Some
returns-in_err-fault-in-Some g c =
    let told = c.in_ok-head.ensures in
    let inside = rw c.in-Some.is at told.inside in
    ReadsIn-refused _ _ c.from_residual-in_err-fault-in-Some.ensures.1
    (Passes-then c.loop-head.invariant.passed (Passes-then told.passes c.in_err-fault-in-Some.ensures.passed (le_refl _) (le_refl _) (le_refl _)) (le_refl _) (le_refl _) inside.1)
