use Rattle.std.proofs.Common.{◌≡◌, take, arith}
use Rattle.std.proofs.lemmas.Grind.{common_steps}
use Rattle.flash_device.proofs.fail_at.write_part.Goals as goal

pub returns : goal.returns
returns g c =
    let same : take c.min.result c.args.bytes.now ≡ take c.args.part c.args.bytes.now = grind (arith, common_steps) in
    rw same at c.write_at.ensures.after
