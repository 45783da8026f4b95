use Rattle.std.proofs.Common.{sym, ap, ◌∙◌}
use Rattle.osal_idtable.specs.Table.{active_at}
use Rattle.osal_idtable.specs.SlotSteps.{taking_fault}
use Rattle.osal_idtable.proofs.Seen.{active_seen}
use Rattle.osal_idtable.proofs.table.Table.fault_of_taking.Goals as goal

pub returns : goal.returns
returns g c =
    c.fault_of_taking.ensures ∙ sym (ap taking_fault (active_seen _ c.self.invariant c.args.id))
    ∙ ap (λ t. taking_fault (active_at t c.args.id)) c.self.view_is
