use Rattle.osal_make.specs.Made.{main_body, worker_body}
use Rattle.osal_make.proofs.Counted.{IsTable}
use Rattle.osal_make.proofs.make.bodies_for.Given as goal

abbrev pub invariant-loop-worker : goal.invariant-loop-worker
invariant-loop-worker l = IsTable (main_body l.workers) (worker_body l.workers) l.worker l.bodies.items
