use Rattle.std.proofs.Common.{sym, ap, ◌∙◌}
use Rattle.osal_idtable.specs.Table.{active_at}
use Rattle.osal_idtable.specs.Holds.{holds_of}
use Rattle.osal_idtable.proofs.Seen.{active_seen}
use Rattle.osal_idtable.proofs.table.Table.holds.Goals as goal

pub returns : goal.returns
returns g c =
    c.holds.ensures ∙ sym (ap holds_of (active_seen _ c.self.invariant c.args.id))
    ∙ ap (λ t. holds_of (active_at t c.args.id)) c.self.view_is
