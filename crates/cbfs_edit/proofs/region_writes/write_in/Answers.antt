use Rattle.std.proofs.Common.{rules, arith, ◌+◌, refl, Ok}
use Rattle.cbfs_edit.proofs.Changes.{copy-outside, copy-torn, copy-done, device-told}
use Rattle.cbfs_edit.proofs.region_writes.write_in.Goals as goal

pub returns-in-Ok : goal.returns-in-Ok
returns-in-Ok g c =
    let copied = rw (c.new-source.ensures.0, c.new-source.ensures.1) at c.in-Ok.ensures.after in
    let reach = c.requires.reach.inside in
    record {
      after = record { calls = search rules; outside = copy-outside c.args.region c.args.at (c.start.result + c.args.at) _ _ _ _ (omega arith) reach _ copied };
      written = λ honest. copy-done c.args.region c.args.at (c.start.result + c.args.at) _ _ _ _ (omega arith) reach (Ok c.in-Ok.field-0) copied c.requires.reach.region.inside honest refl;
      left = copy-torn c.args.region c.args.at (c.start.result + c.args.at) _ _ _ _ (omega arith) reach _ copied;
    }

pub returns : goal.returns
returns g c =
    let copied = rw (c.new-source.ensures.0, c.new-source.ensures.1) at c.in-Err.ensures.after in
    let reach = c.requires.reach.inside in
    let told = device-told c.in-Err.field-0 (omega (arith, copied.source_calls.faults)) in
    record {
      after = record { calls = let calls = rw told at copied.calls in search rules; outside = copy-outside c.args.region c.args.at (c.start.result + c.args.at) _ _ _ _ (omega arith) reach _ copied };
      written = λ honest. tt;
      left = copy-torn c.args.region c.args.at (c.start.result + c.args.at) _ _ _ _ (omega arith) reach _ copied;
    }
