use Rattle.osal_object.proofs.ActiveOnce.{not_active_again}
use Rattle.osal_object.proofs.laws.not_active_again.Goals as goal

pub returns : goal.returns
returns g c = not_active_again g.row.T.Denot g.row.W.Denot
