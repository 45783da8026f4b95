use Rattle.osal_time.proofs.FewFire.{few_fire}
use Rattle.osal_time.proofs.laws.few_fire.Goals as goal

pub returns : goal.returns
returns c = few_fire
