use Rattle.osal_idtable.proofs.Serials.{serials_rise}
use Rattle.osal_idtable.proofs.laws.serials_rise.Goals as goal

pub returns : goal.returns
returns g c = serials_rise g.row.T.Denot
