-- The tasks, and what their calls do.
use Rattle.std.specs.Prelude.{◌+◌, ◌*◌, List, [], ◌∷◌, ℕ, Bool, true, false, not, Option, Some, None, nat_lt, if◌then◌else◌}
use Rattle.osal_base.specs.declared.status.Status.TheVariants as status
use Rattle.osal_base.specs.declared.id.ObjType.TheVariants as kind
use Rattle.osal_base.specs.declared.limits.Limits.{Limits}
use Rattle.osal_base.specs.declared.time.Moment.{Moment}
use Rattle.osal_base.specs.Identifier.{type_number}
use Rattle.osal_base.specs.Limits.{lowest_priority}
use Rattle.osal_base.specs.Reply.{Replied}
use Rattle.osal_idtable.specs.Table.{Active, active_at}
use Rattle.osal_idtable.specs.Holds.{is_held}
use Rattle.osal_idtable.specs.Faults.{name_bytes}
use Rattle.osal_object.specs.Objects.{ObjectsState, no_objects}
use Rattle.osal_object.specs.Outcomes.{Put, Outcome, Refuse, Named, On, Go, Make, Leave, Hold, change, tell, carried_out}
use Rattle.osal_task.specs.declared.part.Task.{Task}

-- the task part: the tasks, and the delays that are open
pub record TaskState : Type 0 where
  pub objects : ObjectsState Task (Unit {0})

-- no tasks
abbrev pub no_tasks : Limits → TaskState
no_tasks limits = record { objects = no_objects (type_number kind.Task) limits.tasks limits.tasks }

-- a step of the objects is a step of the part
abbrev pub in_tasks : Replied × ObjectsState Task (Unit {0}) → Replied × TaskState
in_tasks stepped = (stepped.0, record { objects = stepped.1 })

-- the task under an identifier, if it is active
abbrev pub task_at : TaskState → ℕ → Option (Active Task)
task_at tasks id = active_at tasks.objects.table id

-- a task that is not marked for deletion
abbrev pub new_task : ℕ → ℕ → ℕ → Task
new_task body stack priority = record { body = body; stack = stack; priority = priority; marked = false }

-- a call of a task by its outcome
abbrev pub done : TaskState → ℕ → Moment → Outcome Task (Unit {0}) → Replied × TaskState
done tasks task now outcome = in_tasks (carried_out tasks.objects task now outcome)

-- OS_TaskCreate: name faults, a priority above 255, create faults; else the new task's identifier
abbrev pub task_create : List ℕ → ℕ → ℕ → ℕ → Outcome Task (Unit {0})
task_create name body stack priority =
    Named name
    (if nat_lt lowest_priority priority then Refuse status.ErrInvalidPriority
    else Make name (new_task body stack priority))

-- a task that is marked already, or held, is refused; any other is marked for deletion
abbrev pub mark_of : ℕ → Active Task → Outcome Task (Unit {0})
mark_of id active =
    if active.object.marked then Refuse status.ErrIncorrectObjState
    else (if is_held (Some active) then Refuse status.ErrObjectInUse
    else change (Put id (record active.object { marked = true }) ∷ []))

-- OS_TaskDelete: the task is marked, and removed at its next checkpoint
abbrev pub task_delete : ℕ → Outcome Task (Unit {0})
task_delete id = On id (mark_of id)

-- OS_TaskSetPriority: a priority above 255, a task that is not active; else it has the priority
abbrev pub task_set_priority : ℕ → ℕ → Outcome Task (Unit {0})
task_set_priority id priority =
    if nat_lt lowest_priority priority then Refuse status.ErrInvalidPriority
    else On id (λ active. change (Put id (record active.object { priority = priority }) ∷ []))

-- the stack size and the priority of a task in one number
abbrev pub sizes_of : Task → ℕ
sizes_of task = task.stack * 256 + task.priority

-- OS_TaskGetInfo: the sizes, with the name
abbrev pub task_info : ℕ → Outcome Task (Unit {0})
task_info id = On id (λ active. tell (sizes_of active.object) (name_bytes active.name))

-- the place at which a task learns whether it goes on: a task that is marked is removed, and any other goes on
abbrev pub checkpoint : ℕ → Outcome Task (Unit {0})
checkpoint task = On task (λ active. if active.object.marked then Leave task else Go)

-- a hold of a task: a task that is marked is refused
abbrev pub hold : ℕ → Outcome Task (Unit {0})
hold id =
    On id (λ active. if active.object.marked then Refuse status.ErrIncorrectObjState else Hold id)

-- whether a task is there and not marked
abbrev pub is_unmarked : Option (Active Task) → Bool
is_unmarked None = false
is_unmarked (Some active) = not active.object.marked

-- whether a task is active and not marked for deletion
abbrev pub goes : TaskState → ℕ → Bool
goes tasks task = is_unmarked (task_at tasks task)
