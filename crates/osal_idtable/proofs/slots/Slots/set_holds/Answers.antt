use Rattle.std.proofs.Common.{length, sym, ap, ◌∙◌}
use Rattle.osal_idtable.proofs.Named.{kept_holds}
use Rattle.osal_idtable.proofs.slots.Slots.set_holds.Goals as goal

pub invariant_of-self : goal.invariant_of-self
invariant_of-self g c =
    let long = c.capacity.ensures.value ∙ ap (λ t. length t.slots) (sym c.self.view_is) in
    rw c.set_holds.ensures
    (kept_holds c.self.inside.slots.items c.self.inside.order.items _ _ _ c.self.invariant c.index-at.ensures.within long c.index_mut.result.now _ c.index_mut.ensures.value)
