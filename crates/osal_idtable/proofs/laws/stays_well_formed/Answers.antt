use Rattle.osal_idtable.proofs.WellFormed.{stays_well_formed}
use Rattle.osal_idtable.proofs.laws.stays_well_formed.Goals as goal

pub returns : goal.returns
returns g c = stays_well_formed g.row.T.Denot
