use Rattle.std.proofs.Common.{refl, sym, ◌∙◌}
use Rattle.osal_idtable.proofs.Steps.{looked_up_some, looked_up_none}
use Rattle.osal_idtable.proofs.table.Table.get_mut.Goals as goal

pub returns-then-is_active : goal.returns-then-is_active
returns-then-is_active g c =
    (refl, record { writes_back = tt; value = looked_up_some _ _ (sym c.is_active.ensures ∙ c.if-is_active.true) c.object_mut.ensures.value })

pub returns-else-is_active : goal.returns-else-is_active
returns-else-is_active g c =
    (refl, record { writes_back = tt; value = looked_up_none _ (sym c.is_active.ensures ∙ c.if-is_active.false) })
