use Rattle.std.proofs.Common.{sym, ap, ◌∙◌}
use Rattle.osal_idtable.specs.Table.{active_at}
use Rattle.osal_idtable.specs.Looks.{name_under}
use Rattle.osal_idtable.proofs.Seen.{active_seen}
use Rattle.osal_idtable.proofs.table.Table.name_of.Goals as goal

pub returns : goal.returns
returns g c =
    c.name_of.ensures ∙ sym (ap name_under (active_seen _ c.self.invariant c.args.id))
    ∙ ap (λ t. name_under (active_at t c.args.id)) c.self.view_is
