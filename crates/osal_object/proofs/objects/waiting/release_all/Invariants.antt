use Rattle.std.proofs.Common.{◌≡◌, drop}
use Rattle.osal_object.specs.Waiting.{release_each}
use Rattle.osal_object.proofs.objects.waiting.release_all.Given as goal

-- the objects that are left lead to the same
abbrev pub invariant-loop-id : goal.invariant-loop-id
invariant-loop-id g l = release_each l.table (drop l.id-index l.ids) ≡ release_each l.initial.table l.ids
