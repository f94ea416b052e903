use Rattle.flash_device.proofs.WindowLemmas.{part_read}
use Rattle.flash_device.proofs.paged.Paged.part.Goals as goal

pub returns-in-Window-clause-read : goal.returns-in-Window-clause-read
returns-in-Window-clause-read g c =
    let covers = rw (← c.self.view_is) at c.requires in
    rw (← c.self.view_is) (λ h. part_read (g.F.Flash.facts c.self.inside.device) c.self.inside.buffer c.self.inside.held c.in-Window.from _ c.args.at c.args.n c.in-Window.is c.self.invariant.1 covers h)
