use Rattle.osal_laws.proofs.Ended.{ended_over}
use Rattle.osal_laws.proofs.laws.ended_waits_are_over.Goals as goal

pub returns : goal.returns
returns c = ended_over
