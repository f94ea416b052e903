use Rattle.flash_device.proofs.RegionLemmas.{image_is}
use Rattle.cbfs_commands.proofs.create.creation.format_place.Goals as goal

pub returns-in-Ok-clause-formatted : goal.returns-in-Ok-clause-formatted
returns-in-Ok-clause-formatted g c = λ h.
    image_is c.args.place _ _ _ c.requires.inside c.in-Ok.ensures.after.calls.same_length (c.in-Ok.ensures.after.outside h) (c.in-Ok.ensures.formatted h)
