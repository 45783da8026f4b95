use Rattle.osal_idtable.proofs.Named.{lone_at, none_at}
use Rattle.osal_idtable.proofs.slots.order.slot_named.Goals as goal

pub returns-in-Ok : goal.returns-in-Ok
returns-in-Ok g c =
    lone_at c.args.slots.now c.args.order.now c.args.name.now c.in-Ok.place c.requires c.in-Ok.ensures

pub returns-in-Err : goal.returns-in-Err
returns-in-Err g c =
    none_at c.args.slots.now c.args.order.now c.args.name.now _ c.requires c.in-Err.ensures
