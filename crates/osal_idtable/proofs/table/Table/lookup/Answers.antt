use Rattle.osal_idtable.proofs.Steps.{lookup_same}
use Rattle.osal_idtable.proofs.table.Table.lookup.Goals as goal

pub returns : goal.returns
returns g c = rw (← c.self.view_is, lookup_same _ c.self.invariant) c.lookup.ensures
