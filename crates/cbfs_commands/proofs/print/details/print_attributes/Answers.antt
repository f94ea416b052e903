use Rattle.std.proofs.Common.{◌≡◌, ◌+◌, ◌-◌, ◌/◌, ◌∙◌, IsTrue, drop, min, List, ℕ, ap, inl, refl, subst, sym, arith}
use Rattle.flash_device.specs.Regions.{bytes_in}
use Rattle.cbfs_walk.specs.AttrWalks.{attributes_left}
use Rattle.cbfs_walk.specs.declared.attribute_walk.AttrWalk.{AttrWalk}
use Rattle.cbfs_commands.proofs.AttributeLines.{lines-first, lines-none, lines_left}
use Rattle.cbfs_commands.proofs.OutputParts.{so_far-ends, so_far-more, printout-after, printout-none, printout-refusal, printout-part, printout-put}
use Rattle.cbfs_commands.proofs.print.details.print_attributes.Goals as goal

pub loop-head-preserved : goal.loop-head-preserved
loop-head-preserved g c =
    let had = c.loop-head.invariant in
    let head = c.in-Some.head in
    let printout = c.in_ok-head.ensures in
    let is = c.in-Some.is in
    let given = rw is at printout.attribute in
    let moved = rw is at printout.moved in
    let at : c.next.new.self.at ≡ c.loop-head.walk.at + head.len = ap (λ (q : AttrWalk). q.at) moved in
    let put = c.in_ok-put_all.ensures in
    let row = printout-put printout.calls.read put.faults (rw (c.as_slice.ensures.value, c.set_attribute_row.ensures) at put.put) in
    record {
      same_cell = ap (λ (q : AttrWalk). q.cell) moved ∙ had.same_cell;
      same_offset = ap (λ (q : AttrWalk). q.cell.head.offset) moved ∙ had.same_offset;
      inside = omega (arith, given.inside, had.same_offset, at);
      left = λ h.
          let before = subst (λ b. IsTrue b) printout.calls.read.device.calls.same_honesty h in
          let left = had.left before in (
            drop 1 left.0,
            ap (λ (l : List ℕ). attributes_left (bytes_in c.args.region l) c.next.new.self) (printout.calls.read.device.unchanged before) ∙ (printout.list before left.0 left.1).1,
          );
      printout = so_far-more had.printout _ _ row (λ h. let left = had.left h in lines-first _ _ left.0 head left.1 (sym is ∙ (printout.list h left.0 left.1).0) ((printout.list h left.0 left.1).1)) (omega (arith, given.head, at));
    }

pub returns-in_err-put_all : goal.returns-in_err-put_all
returns-in_err-put_all g c =
    let had = c.loop-head.invariant in
    let head = c.in-Some.head in
    let printout = c.in_ok-head.ensures in
    let is = c.in-Some.is in
    let given = rw is at printout.attribute in
    let put = c.in_err-put_all.ensures in
    let stopped = printout-part printout.calls.read _ put.cause (rw (c.as_slice.ensures.value, c.set_attribute_row.ensures) at put.part) c.from_residual-in_err-put_all.ensures.1 (λ image. lines_left (attributes_left (bytes_in c.args.region image) c.next.new.self)) in
    so_far-ends had.printout _ stopped (λ h. let left = had.left h in lines-first _ _ left.0 head left.1 (sym is ∙ (printout.list h left.0 left.1).0) ((printout.list h left.0 left.1).1)) (omega (arith, given.head, given.inside, had.same_offset))

pub returns : goal.returns
returns g c =
    let had = c.loop-head.invariant in
    let printout = c.in_ok-head.ensures in
    so_far-ends had.printout _ (printout-after (printout-none _ _) (min 1 ((c.loop-head.walk.cell.head.offset - c.loop-head.walk.at) / 8)) printout.calls.read (omega arith)) (λ h. let left = had.left h in lines-none _ left.0 left.1 (sym c.in_default.is ∙ (printout.list h left.0 left.1).0)) (omega (arith, had.same_offset, had.inside))

pub returns-in_err-head : goal.returns-in_err-head
returns-in_err-head g c =
    let had = c.loop-head.invariant in
    let failed = printout-refusal (λ image. lines_left (attributes_left (bytes_in c.args.region image) c.loop-head.walk)) c.from_residual.ensures.1 c.in_err-head.ensures.calls.read (λ e. cc) (λ e. cc) (λ h. inl refl) in
    so_far-ends had.printout _ failed (λ h. refl) (omega (arith, had.same_offset, had.inside))
