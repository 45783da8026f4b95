use Rattle.osal_runs.proofs.ReadWhole.{ticks_are_read_whole}
use Rattle.osal_runs.proofs.ticks_are_read_whole.Goals as goal

pub returns : goal.returns
returns c = ticks_are_read_whole
