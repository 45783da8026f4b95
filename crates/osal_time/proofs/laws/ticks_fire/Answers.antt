use Rattle.osal_time.proofs.Window.{ticks_fire}
use Rattle.osal_time.proofs.laws.ticks_fire.Goals as goal

pub returns : goal.returns
returns c = ticks_fire
