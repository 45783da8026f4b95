use Rattle.std.proofs.Common.{Some, option_copied, sym, ap, ◌∙◌}
use Rattle.osal_idtable.specs.Slots.{is_used}
use Rattle.osal_idtable.proofs.Named.{told_used}
use Rattle.osal_idtable.proofs.slots.Slots.is_used.Goals as goal

pub returns-in-Some : goal.returns-in-Some
returns-in-Some g c =
    let told = rw c.as_slice.ensures.value at c.slot_named.ensures in
    c.is_some.ensures ∙ told_used c.self.inside.slots.items c.in-Some.name.now c.slot_named.result told
    ∙ ap (λ t. is_used t (Some c.in-Some.name.now)) c.self.view_is ∙ ap (λ o. is_used c.args.self.now (option_copied o)) (sym c.in-Some.is)
