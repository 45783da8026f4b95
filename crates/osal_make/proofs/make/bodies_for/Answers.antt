use Rattle.std.proofs.Common.{◌+◌, arith}
use Rattle.osal_make.specs.Made.{main_body, worker_body}
use Rattle.osal_make.proofs.Counted.{table_more, table_done}
use Rattle.osal_make.proofs.make.bodies_for.Goals as goal
use Rattle.osal_make.proofs.make.bodies_for.Goals.{else-loop-worker-test, then-loop-worker-test+in_ok-worker_body+in_ok-push-2+else-worker-workers}

pub loop-worker-preserved : goal.loop-worker-preserved
loop-worker-preserved c =
    table_more (main_body c.args.workers) _ (worker_body c.args.workers) c.loop-worker.worker _ _ c.loop-worker.auto.worker c.loop-worker.invariant c.in_ok-worker_body.ensures c.in_ok-push-2.ensures.items

pub returns : goal.returns
returns c =
    let n = c.args.workers in
    elim c.loop-worker-test.branch [
      | else-loop-worker-test w ↦ rw w.bodies-is (table_done (main_body n) (worker_body n) c.loop-worker.worker n _ (omega arith) c.loop-worker.invariant)
      | then-loop-worker-test+in_ok-worker_body+in_ok-push-2+else-worker-workers w ↦
          let more = table_more (main_body n) _ (worker_body n) c.loop-worker.worker _ _ c.loop-worker.auto.worker c.loop-worker.invariant w.in_ok-worker_body.ensures w.in_ok-push-2.ensures.items in
          rw w.bodies-is (table_done (main_body n) (worker_body n) (c.loop-worker.worker + 1) n _ (omega arith) more)
    ]
