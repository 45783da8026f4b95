use Rattle.osal_blocks.proofs.Whole.{sound}
use Rattle.osal_blocks.proofs.blocks.Blocks.total.Goals as goal

pub returns-clause-sound : goal.returns-clause-sound
returns-clause-sound c =
    rw (← c.self.view_is) (sound c.self.inside.store.items c.self.inside.chains c.self.inside.lengths.items c.self.inside.reserved c.self.invariant)
