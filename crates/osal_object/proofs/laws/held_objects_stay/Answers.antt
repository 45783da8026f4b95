use Rattle.osal_object.proofs.Activity.{held_objects_stay}
use Rattle.osal_object.proofs.laws.held_objects_stay.Goals as goal

pub returns : goal.returns
returns g c = held_objects_stay g.row.T.Denot g.row.W.Denot
