use Rattle.osal_runs.proofs.CostLaw.{cost_bounds_entries}
use Rattle.osal_runs.proofs.cost_bounds_entries.Goals as goal

pub returns : goal.returns
returns c = cost_bounds_entries
