use Rattle.osal_idtable.proofs.Full.{none_free_full}
use Rattle.osal_idtable.proofs.laws.none_free_means_full.Goals as goal

pub returns : goal.returns
returns g c = none_free_full g.row.T.Denot
