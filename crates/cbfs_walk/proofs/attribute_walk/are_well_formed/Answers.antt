use Rattle.std.proofs.Common.{true, false, refl, rules}
use Rattle.cbfs_walk.proofs.ReadSequences.{ReadsIn-refused}
use Rattle.cbfs_walk.proofs.AttributeScans.{scanning_start, scanned, lies_still, asked_more, asked_here, are_formed, formed_more, formed_end, formed_malformed}
use Rattle.cbfs_walk.proofs.attribute_walk.are_well_formed.Goals as goal

pub loop-head-init : goal.loop-head-init
loop-head-init g c = scanning_start c.args.region c.args.from c.args.end _ _ c.requires.order (λ h. refl)

pub listed_at-requires : goal.listed_at-requires
listed_at-requires g c = record { region = lies_still c.loop-head.invariant c.requires.reach.region; inside = search rules }

pub loop-head-preserved : goal.loop-head-preserved
loop-head-preserved g c =
    let told = rw c.in-Attribute.is at c.in_ok-head.ensures.listed in
    asked_more are_formed c.args.region _ _ c.loop-head.at _ _ _ c.loop-head.invariant told c.in-Attribute.head c.from-at.result _ c.from-at.ensures (rw c.in-Attribute.is at c.in_ok-head.ensures.attribute) c.in_ok-head.ensures.passes
    (formed_more c.in-Attribute.head)

pub returns-in-End : goal.returns-in-End
returns-in-End g c = record {
  passed = scanned c.loop-head.invariant c.in_ok-head.ensures.passes;
  value = asked_here are_formed c.args.region _ _ c.loop-head.at _ _ _ c.loop-head.invariant (rw c.in-End.is at c.in_ok-head.ensures.listed) (λ x. true) (λ x. formed_end _);
}

pub returns-in-Malformed : goal.returns-in-Malformed
returns-in-Malformed g c = record {
  passed = scanned c.loop-head.invariant c.in_ok-head.ensures.passes;
  value = asked_here are_formed c.args.region _ _ c.loop-head.at _ _ _ c.loop-head.invariant (rw c.in-Malformed.is at c.in_ok-head.ensures.listed) (λ x. false) (λ x. formed_malformed _);
}

pub returns-in_err-head : goal.returns-in_err-head
returns-in_err-head g c = ReadsIn-refused _ _ c.from_residual.ensures.1 (scanned c.loop-head.invariant c.in_err-head.ensures.passes)
