use Rattle.osal_object.proofs.ByCalls.{tables_stay_well_formed}
use Rattle.osal_object.proofs.laws.tables_stay_well_formed.Goals as goal

pub returns : goal.returns
returns g c = tables_stay_well_formed g.row.T.Denot g.row.W.Denot
