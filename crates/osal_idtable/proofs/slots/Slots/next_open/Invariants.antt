use Rattle.std.proofs.Common.{◌≡◌, ◌-◌, find}
use Rattle.osal_idtable.specs.Slots.{is_open, next_open}
use Rattle.osal_idtable.specs.Next.{candidates}
use Rattle.osal_idtable.proofs.slots.Slots.next_open.Given as goal

-- the candidates that are left give the same answer
abbrev pub invariant-loop-i : goal.invariant-loop-i
invariant-loop-i g l =
    find (is_open l.self) (candidates l.capacity (l.capacity - l._i) l.place) ≡ next_open l.self
