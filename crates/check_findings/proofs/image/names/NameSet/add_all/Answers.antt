use Rattle.std.proofs.lemmas.List.{take_all}
use Rattle.std.proofs.Common.{◌≡◌, ◌++◌, take}
use Rattle.check_findings.specs.ImageFindings.{has_one_of, is_named_in}
use Rattle.check_findings.specs.ImageFindings.{names_in}
use Rattle.check_findings.proofs.ImageLemmas.NameLemmas.{has_more, one_more}
use Rattle.check_findings.proofs.FirstAreas.{one_taken}
use Rattle.check_findings.proofs.image.names.NameSet.add_all.Goals as goal

pub loop-name-preserved : goal.loop-name-preserved
loop-name-preserved c = λ before has.
    one_taken (λ l. is_named_in c.loop-name.self ≡ has_one_of (before ++ names_in l)) (λ l. is_named_in (record { names = c.insert.new.self }) ≡ has_one_of (before ++ names_in l)) c.args.names.now c.loop-name.name-index _ c.loop-name-test.true
    (λ so_far. has_more (record { names = c.insert.new.self }) before _ _
    (one_more c.loop-name.self (record { names = c.insert.new.self }) (before ++ names_in (take c.loop-name.name-index c.args.names.now)) _ _ c.in_ok-insert.ensures.updates so_far)) (c.loop-name.invariant before has)

pub returns : goal.returns
returns c = λ before has. rw (take_all _ _ c.loop-name-test.false) at (c.loop-name.invariant before has)
