use Rattle.std.proofs.Common.{sym, ap, ◌∙◌}
use Rattle.osal_idtable.specs.Slots.{first_named}
use Rattle.osal_idtable.proofs.Named.{none_found, lone_read}
use Rattle.osal_idtable.proofs.slots.Slots.find.Goals as goal

pub returns-in-None : goal.returns-in-None
returns-in-None g c =
    let none = rw c.as_slice.ensures.value at c.in-None.ensures in
    sym (none_found c.self.inside.slots.items c.args.name.now none) ∙ ap (λ t. first_named c.args.name.now t.slots) c.self.view_is

pub returns-in-Some : goal.returns-in-Some
returns-in-Some g c =
    let lone = rw c.as_slice.ensures.value at c.in-Some.ensures in
    c.live_id.ensures ∙ lone_read c.self.inside.slots.items c.args.name.now c.in-Some.at c.index.result.now lone c.index.ensures
    ∙ ap (λ t. first_named c.args.name.now t.slots) c.self.view_is
