use Rattle.osal_nested.proofs.Flat.{lines_follow, cost_follows}
use Rattle.osal_nested.proofs.laws.lines_and_costs_follow.Goals as goal

pub returns : goal.returns
returns c = record { lines = lines_follow; costs = cost_follows }
