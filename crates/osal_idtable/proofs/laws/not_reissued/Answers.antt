use Rattle.osal_idtable.proofs.Serials.{not_reissued}
use Rattle.osal_idtable.proofs.laws.not_reissued.Goals as goal

pub returns : goal.returns
returns g c = not_reissued g.row.T.Denot
