-- None of the numbers so far is spelled.
use Rattle.std.proofs.Common.{◌≡◌}
use Rattle.osal_run.specs.Request.{worker_count}
use Rattle.osal_run.proofs.Workers.{count_from}
use Rattle.osal_run.proofs.request.worker_count.Given as goal

abbrev pub invariant-loop-count : goal.invariant-loop-count
invariant-loop-count l = count_from l.word l.count ≡ worker_count l.word
