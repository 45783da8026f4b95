use Rattle.osal_time.proofs.Window.{lie_between}
use Rattle.osal_time.proofs.laws.expiries_lie_between.Goals as goal

pub returns : goal.returns
returns c = lie_between
