use Rattle.osal_idtable.proofs.Named.{kept_value}
use Rattle.osal_idtable.proofs.slots.Slots.object_mut.Goals as goal

pub invariant_of-self-lent : goal.invariant_of-self-lent
invariant_of-self-lent g c w =
    kept_value c.self.inside.slots.items c.self.inside.order.items _ _ _ c.self.invariant c.index-at.ensures.within c.capacity.ensures.value c.index_mut.result.now w c.index_mut.ensures.value
