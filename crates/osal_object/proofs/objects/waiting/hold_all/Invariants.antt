use Rattle.std.proofs.Common.{◌≡◌, drop}
use Rattle.osal_object.specs.Waiting.{hold_each}
use Rattle.osal_object.proofs.objects.waiting.hold_all.Given as goal

-- the objects that are left lead to the same
abbrev pub invariant-loop-id : goal.invariant-loop-id
invariant-loop-id g l = hold_each l.table (drop l.id-index l.ids) ≡ hold_each l.initial.table l.ids
