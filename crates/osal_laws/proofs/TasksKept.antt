-- What a call leaves of the tasks, whichever part it is of.
use Rattle.std.proofs.Common.{◌≡◌, ℕ, false, is_some, refl, sym, subst}
use Rattle.osal_base.specs.declared.time.Moment.{Moment}
use Rattle.osal_object.specs.Objects.{ObjectsState}
use Rattle.osal_object.proofs.Shapes.{SameShape, same_shape, move_shape}
use Rattle.osal_task.specs.declared.part.Task.{Task}
use Rattle.osal_task.specs.Tasks.{TaskState, task_at}
use Rattle.osal_machine.specs.Step.{MachineState, step}
use Rattle.osal_call.specs.declared.call.Call.{Call}
use Rattle.osal_laws.proofs.Own.{after_tasks}
use Rattle.osal_laws.proofs.Known.{known_moves}
use Rattle.osal_laws.proofs.TaskKnown.{tasks_known}
use Rattle.osal_laws.proofs.TasksAlike.{moves_tasks, task_alike}

module _ (state : MachineState) (task : ℕ) (now : Moment) (made : Call) where
  -- the table of tasks keeps its type and its slots
  pub shape_kept : SameShape state.tasks.objects.table (step state task now made).1.tasks.objects.table
  shape_kept =
      let by = known_moves tasks_known state.tasks task now made in
      after_tasks state task now made (λ (t : TaskState). SameShape state.tasks.objects.table t.objects.table)
      (same_shape state.tasks.objects.table)
      (subst (λ (o : ObjectsState Task (Unit {0})). SameShape state.tasks.objects.table o.table) (sym by.is) (move_shape state.tasks.objects by.move))

  -- a call that creates no task and removes none leaves the same tasks active
  pub active_kept : moves_tasks made ≡ false → (id : ℕ) → is_some (task_at (step state task now made).1.tasks id) ≡ is_some (task_at state.tasks id)
  active_kept still =
      after_tasks state task now made (λ (t : TaskState). (id : ℕ) → is_some (task_at t id) ≡ is_some (task_at state.tasks id))
      (λ id. refl) (task_alike state.tasks task now made still)
