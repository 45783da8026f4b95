use Rattle.osal_object.proofs.CallersHold.{callers_hold}
use Rattle.osal_object.proofs.laws.callers_hold.Goals as goal

pub returns : goal.returns
returns g c = callers_hold g.row.T.Denot g.row.W.Denot
