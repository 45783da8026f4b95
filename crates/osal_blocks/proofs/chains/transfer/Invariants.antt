use Rattle.osal_blocks.specs.Chains.{Moved, IsThreaded, chains_in}
use Rattle.osal_blocks.proofs.chains.transfer.Given as goal

abbrev pub invariant-loop-moved : goal.invariant-loop-moved
invariant-loop-moved l = record {
  moved : Moved (chains_in l.fn.next l.fn.ends) (chains_in l.next l.ends) l.from l.to l._moved;
  threaded : IsThreaded l.next l.ends;
}
