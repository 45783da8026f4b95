use Rattle.osal_idtable.proofs.Named.{free_kept}
use Rattle.osal_idtable.proofs.slots.Slots.new.Goals as goal

pub invariant_of-result : goal.invariant_of-result
invariant_of-result g c =
    free_kept c.in_ok-slots.slots.items c.in_ok-order.order.items _ c.args.capacity c.in_ok-slots.ensures c.in_ok-order.ensures.items c.in_ok-order.ensures.capacity c.requires.0 c.requires.1
