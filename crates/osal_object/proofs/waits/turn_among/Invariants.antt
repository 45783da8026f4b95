use Rattle.std.proofs.Common.{◌≡◌, ◌==◌, drop}
use Rattle.std.specs.List.{list_any}
use Rattle.osal_object.proofs.waits.turn_among.Given as goal

-- the task is among those that are left if it is among all
abbrev pub invariant-loop-turn : goal.invariant-loop-turn
invariant-loop-turn l =
    list_any (λ other. other == l.task) (drop l.turn l.tasks) ≡ list_any (λ other. other == l.task) l.tasks
