use Rattle.std.proofs.Common.{refl, sym, ◌∙◌}
use Rattle.osal_idtable.specs.declared.slot.Slot.TheVariants as slot
use Rattle.osal_idtable.proofs.Named.{name_read, none_at, agrees_kept, agrees_taken}
use Rattle.osal_idtable.proofs.slots.order.delist.Goals as goal

pub unreachable-requires : goal.unreachable-requires
unreachable-requires g c =
    let gap = rw c.as_slice.ensures.value at c.in-Err.ensures in
    none_at c.args.slots.now c.args.order.now.items c.in-Some.name.now c.in-Err.field-0 c.requires.agrees gap c.args.at (name_read c.args.slots.now c.args.at c.index-slots-at.result c.requires.within c.index-slots-at.is ∙ sym c.in-Some.ensures)

pub returns-in-Ok-clause-agrees : goal.returns-in-Ok-clause-agrees
returns-in-Ok-clause-agrees g c =
    let place = rw c.as_slice.ensures.value at c.in-Ok.ensures in
    rw c.remove.ensures.items
    (agrees_taken c.args.slots.now c.args.at slot.Free c.args.order.now.items c.in-Some.name.now c.in-Ok.place c.requires.within (name_read c.args.slots.now c.args.at c.index-slots-at.result c.requires.within c.index-slots-at.is ∙ sym c.in-Some.ensures) refl c.requires.agrees place)

pub returns-in_default-clause-agrees : goal.returns-in_default-clause-agrees
returns-in_default-clause-agrees g c =
    agrees_kept c.args.slots.now c.args.at slot.Free c.args.order.now.items (c.in_default.ensures ∙ sym (name_read c.args.slots.now c.args.at c.index-slots-at.result c.requires.within c.index-slots-at.is)) c.requires.agrees
