use Rattle.std.proofs.Common.{arith, sym}
use Rattle.check_findings.proofs.ImageLemmas.StartLemmas.{start_new, start_same}
use Rattle.check_findings.proofs.image.starts.Starts.add.Goals as goal
use Rattle.check_findings.proofs.image.starts.Starts.add.Goals.{else-size-ge-HEAD-via-then-size-ge-HEAD+else-not-has_smaller, else-size-ge-HEAD-via-else-size-ge-HEAD}

pub returns-else-size-ge-HEAD : goal.returns-else-size-ge-HEAD
returns-else-size-ge-HEAD c = λ before has.
    let a = c.args.area.now in
    elim c.else-size-ge-HEAD.branch [
      | else-size-ge-HEAD-via-then-size-ge-HEAD+else-not-has_smaller w ↦ start_same c.args.self.now before a (λ fits. sym w.if-not-has_smaller.ensures) has
      | else-size-ge-HEAD-via-else-size-ge-HEAD w ↦ start_same c.args.self.now before a (λ fits. absurd (omega (arith, w.if-size-ge-HEAD.false))) has
    ]

pub returns-in_ok-insert : goal.returns-in_ok-insert
returns-in_ok-insert c = λ before has.
    let a = c.args.area.now in
    start_new c.args.self.now (record { smallest = c.insert.new.self }) before a c.if-size-ge-HEAD.true (sym c.if-not-has_smaller.ensures) c.in_ok-insert.ensures.updates has
