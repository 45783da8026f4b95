use Rattle.std.proofs.Common.{◌≡◌, ◌+◌, ◌∷◌, ◌++◌, List, map, ap, ◌∙◌, arith}
use Rattle.osal_script.specs.declared.item.Item.{Item}
use Rattle.osal_make.specs.MakeText.{workers}
use Rattle.osal_make.specs.Items.{semaphore_item, creation_item, waiting_items}
use Rattle.osal_make.proofs.Counted.{table_more, table_done}
use Rattle.osal_make.proofs.first.main_items.Goals as goal
use Rattle.osal_make.proofs.first.main_items.Goals.{else-loop-worker-test, then-loop-worker-test+in_ok-worker_creation+in_ok-push-2+else-worker-workers}

pub loop-worker-preserved : goal.loop-worker-preserved
loop-worker-preserved c =
    table_more semaphore_item _ creation_item c.loop-worker.worker _ _ c.loop-worker.auto.worker c.loop-worker.invariant c.in_ok-worker_creation.ensures c.in_ok-push-2.ensures.items

pub returns : goal.returns
returns c =
    let all : c.loop-worker-test.items.items ≡ semaphore_item ∷ map creation_item (workers c.args.workers) =
    elim c.loop-worker-test.branch [
      | else-loop-worker-test w ↦ rw w.items-is (table_done semaphore_item creation_item c.loop-worker.worker c.args.workers _ (omega arith) c.loop-worker.invariant)
      | then-loop-worker-test+in_ok-worker_creation+in_ok-push-2+else-worker-workers w ↦
          let more = table_more semaphore_item _ creation_item c.loop-worker.worker _ _ c.loop-worker.auto.worker c.loop-worker.invariant w.in_ok-worker_creation.ensures w.in_ok-push-2.ensures.items in
          rw w.items-is (table_done semaphore_item creation_item (c.loop-worker.worker + 1) c.args.workers _ (omega arith) more)
    ] in
    c.in_ok-push_waits.ensures ∙ ap (λ (v : List Item). v ++ waiting_items c.args.workers) all
