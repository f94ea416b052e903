use Rattle.flash_device.proofs.DeviceLemmas.{OneRead-front}
use Rattle.flash_device.proofs.paged.load.Goals as goal

pub returns : goal.returns
returns g c = OneRead-front c.args.n c.args.buffer.now c.read_at.new.out c.requires.room c.read_at.auto.out c.read_at.ensures.after
