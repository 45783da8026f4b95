use Rattle.osal_idtable.proofs.Looks.{next_same}
use Rattle.osal_idtable.proofs.table.Table.next_from.Goals as goal

pub returns : goal.returns
returns g c = rw (← c.self.view_is) (next_same _ c.self.invariant _ _ c.next_from.ensures)
