use Rattle.osal_runs.proofs.OpenWaitLaw.{open_waits_are_scripts}
use Rattle.osal_runs.proofs.open_waits_are_scripts.Goals as goal

pub returns : goal.returns
returns c = open_waits_are_scripts
