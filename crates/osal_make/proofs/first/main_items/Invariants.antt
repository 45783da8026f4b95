use Rattle.osal_make.specs.Items.{semaphore_item, creation_item}
use Rattle.osal_make.proofs.Counted.{IsTable}
use Rattle.osal_make.proofs.first.main_items.Given as goal

abbrev pub invariant-loop-worker : goal.invariant-loop-worker
invariant-loop-worker l = IsTable semaphore_item creation_item l.worker l.items.items
