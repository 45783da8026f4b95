use Rattle.std.proofs.Common.{length, sym, ap, ◌∙◌}
use Rattle.osal_idtable.specs.Order.{slot_name}
use Rattle.osal_idtable.proofs.Named.{kept, slot_read}
use Rattle.osal_idtable.proofs.slots.Slots.write.Goals as goal

pub invariant_of-self : goal.invariant_of-self
invariant_of-self g c =
    let long = c.capacity.ensures.value ∙ ap (λ t. length t.slots) (sym c.self.view_is) in
    let read = slot_read c.args.self.now c.args.id c.index-at.result c.capacity.result c.self.inside.slots.items c.index_mut.result.now (ap (λ t. t.slots) c.self.view_is) c.capacity.ensures.value c.index-at.ensures.value c.index-at.ensures.within c.index_mut.ensures.value in
    kept c.self.inside.slots.items c.self.inside.order.items _ _ _ c.self.invariant c.index-at.ensures.within long c.index_mut.result.now _ c.index_mut.ensures.value (ap slot_name c.replace.ensures.after ∙ c.requires ∙ ap slot_name (sym read))
