use Rattle.osal_object.proofs.Counted.{holds_are_counted}
use Rattle.osal_object.proofs.laws.holds_are_counted.Goals as goal

pub returns : goal.returns
returns g c = holds_are_counted g.row.T.Denot g.row.W.Denot
