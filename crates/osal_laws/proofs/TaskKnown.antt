-- Each call of the task part is known by its outcome.
use Rattle.std.proofs.Common.{◌≡◌, ◌==◌, ℕ, Bool, true, false, cond, nat_lt, Option, Some, None, refl, ap, ◌∙◌}
use Rattle.std.proofs.lemmas.Bool.{cond_both, cond-false, true≢false}
use Rattle.osal_base.specs.declared.status.Status.TheVariants as status
use Rattle.osal_base.specs.declared.time.Moment.{Moment}
use Rattle.osal_base.specs.declared.time.Timeout.TheVariants as timeout
use Rattle.osal_base.specs.Limits.{lowest_priority}
use Rattle.osal_base.specs.Reply.{refusal}
use Rattle.osal_idtable.specs.Holds.{is_held}
use Rattle.osal_object.specs.declared.waits.WaitRecord.{WaitRecord}
use Rattle.osal_object.specs.Waits.{wait_of, is_due}
use Rattle.osal_object.specs.Waiting.{abandon_step}
use Rattle.osal_object.specs.Objects.{ObjectsState}
use Rattle.osal_object.specs.Outcomes.{Outcome, NoWait, looks, ended_as, given_up}
use Rattle.osal_object.proofs.Moves.{either}
use Rattle.osal_object.proofs.Carried.{FitsEnding, abandon_is}
use Rattle.osal_task.specs.declared.part.Task.{Task}
use Rattle.osal_task.specs.Tasks.{TaskState, in_tasks, done}
use Rattle.osal_task.specs.Delays.{delay_ending}
use Rattle.osal_call.specs.declared.call.Call.{Call}
use Rattle.osal_call.specs.declared.call.Call.TheVariants as call
use Rattle.osal_call.specs.Signature.{part_of, subject_of, is_refused_before, timeout_of, ends_wait}
use Rattle.osal_task.specs.Calls.{task_call, task_step}
use Rattle.osal_laws.proofs.Known.{Known, seen_as}
use Rattle.osal_laws.proofs.Suits.{is_holding, Suits}

-- what an outcome must be that fits a call that may not wait
abbrev Passes : TaskState → Outcome Task (Unit {0}) → Type 0
Passes tasks outcome = Suits false tasks.objects timeout.Check outcome

fits : (tasks : TaskState) (task : ℕ) (made : Call) → ends_wait made ≡ false → Suits (is_holding made) tasks.objects (timeout_of made) (task_call task made)
fits tasks task (call.TaskCreate name body stack priority) other =
    either (Passes tasks) (nat_lt lowest_priority priority) _ _ tt tt
fits tasks task (call.TaskDelete id) other = λ active at.
    either (Passes tasks) active.object.marked _ _ tt
    (either (Passes tasks) (is_held (Some active)) _ _ tt tt)
fits tasks task (call.TaskSetPriority id priority) other =
    either (Passes tasks) (nat_lt lowest_priority priority) _ _ tt (λ active at. tt)
fits tasks task (call.TaskInfo id) other = λ active at. tt
fits tasks task (call.TaskDelay ms) other =
    cond_both (ms == 0) _ _ (Suits false tasks.objects (timeout.Ms ms)) (λ none. tt) (λ some. (refl, some, tt))
fits tasks task call.Checkpoint other = λ active at.
    either (Passes tasks) active.object.marked _ _ tt tt
fits tasks task (call.Hold id) other = λ active at.
    either (Suits true tasks.objects timeout.Check) active.object.marked _ _ tt refl
fits tasks task (call.Release id) other = refl
fits tasks task _ other = tt

looks_at : (task : ℕ) (made : Call) (id : ℕ) → part_of made ≡ 0 → subject_of task made ≡ Some id → is_refused_before made ≡ false → looks (task_call task made) ≡ Some id
looks_at task call.TaskExit id own on may = on
looks_at task (call.TaskDelete other) id own on may = on
looks_at task (call.TaskSetPriority other priority) id own on may =
    ap looks (cond-false (nat_lt lowest_priority priority) _ _ may) ∙ on
looks_at task (call.TaskInfo other) id own on may = on
looks_at task call.Checkpoint id own on may = on
looks_at task (call.Hold other) id own on may = on
looks_at task (call.Release other) id own on may = on
looks_at task _ id own on may = absurd (cc)

ends_fit : (now : Moment) (found : Option (WaitRecord (Unit {0}))) → FitsEnding found (delay_ending now found)
ends_fit now None = refl
ends_fit now (Some wait) = either (FitsEnding (Some wait)) (is_due wait now) _ _ (refl, refl) refl

by_outcome : (tasks : TaskState) (task : ℕ) (now : Moment) (made : Call) → ends_wait made ≡ false → task_step tasks task now made ≡ done tasks task now (task_call task made)
by_outcome tasks task now (call.WaitEnd part) other = absurd (true≢false other)
by_outcome tasks task now (call.WaitAbandon part) other = absurd (true≢false other)
by_outcome tasks task now _ other = refl

-- a delay is given up in the part that is its own, and in no other
abandons_own : (tasks : TaskState) (task : ℕ) (own : Bool) → seen_as (λ (s : TaskState). s.objects) (cond own (in_tasks (abandon_step tasks.objects task)) (refusal status.ErrIncorrectObjState, tasks)) ≡ ended_as tasks.objects task (cond own (given_up (wait_of tasks.objects.waits task)) NoWait)
abandons_own tasks task true = abandon_is tasks.objects task
abandons_own tasks task false = refl

-- each call of the task part is known by its outcome
pub tasks_known : Known 0 (λ part. part == 0) (λ (tasks : TaskState). tasks.objects) (λ tasks task made. task_call task made) (λ tasks task now. delay_ending now (wait_of tasks.objects.waits task)) task_step
tasks_known = record {
  whole = λ old new same. ap (λ (o : ObjectsState Task (Unit {0})). record { objects = o }) same;
  calls = λ tasks task now made other. ap (seen_as (λ (s : TaskState). s.objects)) (by_outcome tasks task now made other);
  fits = λ tasks task made other. fits tasks task made other;
  looks_at = λ tasks task made id own on may. looks_at task made id own on may;
  owns = refl;
  ends = λ tasks task now part. refl;
  ends_fit = λ tasks task now. ends_fit now (wait_of tasks.objects.waits task);
  abandons = λ tasks task now part. abandons_own tasks task (part == 0);
}
