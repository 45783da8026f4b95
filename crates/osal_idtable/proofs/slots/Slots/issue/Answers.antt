use Rattle.osal_idtable.proofs.Named.{none_of}
use Rattle.osal_idtable.proofs.slots.Slots.issue.Goals as goal

pub enlist-requires-clause-unused : goal.enlist-requires-clause-unused
enlist-requires-clause-unused g c =
    let none = none_of c.args.self.now c.args.name c.requires.unused in
    rw (c.as_ref.ensures.value, c.as_slice.ensures.value) (rw (← c.self.view_is) at none)
