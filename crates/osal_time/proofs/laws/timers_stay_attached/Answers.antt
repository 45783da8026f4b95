use Rattle.osal_time.proofs.Attached.{timers_stay_attached}
use Rattle.osal_time.proofs.laws.timers_stay_attached.Goals as goal

pub returns : goal.returns
returns c = timers_stay_attached
