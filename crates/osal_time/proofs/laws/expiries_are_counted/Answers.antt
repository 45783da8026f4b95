use Rattle.osal_time.proofs.Counting.{counted}
use Rattle.osal_time.proofs.laws.expiries_are_counted.Goals as goal

pub returns : goal.returns
returns c = counted
