use Rattle.flash_device.proofs.BytesLemmas.{overwritten-separate}
use Rattle.flash_device.proofs.laws.separate_writes_swap.Goals as goal

pub returns : goal.returns
returns c = overwritten-separate
