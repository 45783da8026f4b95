use Rattle.osal_laws.proofs.OneTurns.{steps_turn_one}
use Rattle.osal_laws.proofs.laws.steps_turn_one.Goals as goal

pub returns : goal.returns
returns c = steps_turn_one
