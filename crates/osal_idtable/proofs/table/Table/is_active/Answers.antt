use Rattle.std.proofs.Common.{is_some, sym, ap, ◌∙◌}
use Rattle.osal_idtable.specs.Table.{active_at}
use Rattle.osal_idtable.proofs.Seen.{active_seen}
use Rattle.osal_idtable.proofs.table.Table.is_active.Goals as goal

pub returns : goal.returns
returns g c =
    c.is_active.ensures ∙ sym (ap is_some (active_seen _ c.self.invariant c.args.id))
    ∙ ap (λ t. is_some (active_at t c.args.id)) c.self.view_is
