use Rattle.std.proofs.Common.{option_copied, sym, ap, ◌∙◌, arith}
use Rattle.osal_idtable.proofs.Named.{agrees_kept, agrees_listed, room_for}
use Rattle.osal_idtable.proofs.slots.order.enlist.Goals as goal

pub unwrap-requires : goal.unwrap-requires
unwrap-requires g c =
    let room = room_for c.args.slots.now c.args.order.now.items c.args.at c.requires.agrees c.requires.within c.requires.free in
    c.insert.ensures.succeeds (omega (arith, room, c.requires.room, c.args.order.now.ok.0))

pub returns-in-Err-clause-agrees : goal.returns-in-Err-clause-agrees
returns-in-Err-clause-agrees g c =
    let gap = rw c.as_slice.ensures.value at c.in-Err.ensures in
    λ content is.
    rw (c.insert.ensures.items, c.unwrap.ensures)
    (agrees_listed c.args.slots.now c.args.at content c.args.order.now.items c.in-Some.name.now c.in-Err.place c.requires.within c.requires.free (is ∙ ap option_copied c.in-Some.is) c.requires.agrees gap)

pub returns-in-Err-clause-room : goal.returns-in-Err-clause-room
returns-in-Err-clause-room g c =
    let room = room_for c.args.slots.now c.args.order.now.items c.args.at c.requires.agrees c.requires.within c.requires.free in
    (c.insert.ensures.in_place (omega (arith, room, c.requires.room, c.args.order.now.ok.0))).1.0

pub returns-in_default-clause-agrees : goal.returns-in_default-clause-agrees
returns-in_default-clause-agrees g c = λ content is.
    agrees_kept c.args.slots.now c.args.at content c.args.order.now.items (is ∙ ap option_copied c.in_default.is ∙ sym c.requires.free) c.requires.agrees
