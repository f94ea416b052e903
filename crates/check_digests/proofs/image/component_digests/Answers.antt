use Rattle.check_digests.proofs.AreaSteps.{areas_inside, digesting_more, digesting_start}
use Rattle.check_digests.proofs.image.component_digests.Goals as goal

pub loop-finding-init : goal.loop-finding-init
loop-finding-init g c = digesting_start _ _ _ c.new-all.ensures.items

pub push_finding-requires : goal.push_finding-requires
push_finding-requires g c = rw c.finding-item.is (areas_inside _ _ c.args.findings.now c.loop-finding.finding-index _ c.loop-finding.invariant.read.device.calls.same_length c.loop-finding-test.true c.requires.areas.inside)

pub loop-finding-preserved : goal.loop-finding-preserved
loop-finding-preserved g c =
    let read = rw c.finding-item.is at c.in_ok-push_finding.ensures.calls in
    let more = rw c.finding-item.is at c.in_ok-push_finding.ensures.digests in
    digesting_more _ _ c.loop-finding.invariant c.loop-finding-test.true read more
