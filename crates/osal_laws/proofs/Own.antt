-- A call reads and changes its own part alone.
use Rattle.std.proofs.Common.{◌≡◌, ◌==◌, ℕ, Bool, true, false, cond, inl, inr, refl, sym, subst, arith}
use Rattle.std.proofs.lemmas.Bool.{cases_eq, eqb-true}
use Rattle.std.proofs.lemmas.Bool.Decides.{nat_tests}
use Rattle.osal_base.specs.declared.time.Moment.{Moment}
use Rattle.osal_task.specs.Tasks.{TaskState}
use Rattle.osal_time.specs.Time.{TimeState}
use Rattle.osal_call.specs.declared.call.Call.{Call}
use Rattle.osal_call.specs.Call.{part_of}
use Rattle.osal_machine.specs.Parts.{PartState, Tasks, Queues, CountSems, BinSems, Mutexes, Condvars, Time, Io, Console, Absent, part_step}
use Rattle.osal_task.specs.Calls.{task_step}
use Rattle.osal_time.specs.Calls.{time_step}
use Rattle.osal_console.specs.Console.{ConsoleState, console_step}
use Rattle.osal_machine.specs.Step.{MachineState, part_in, with_part, step}
use Rattle.osal_laws.specs.Laws.{CallsChangeTheirPart}

module _ (P : ℕ → (MachineState → PartState) → Type 0) (part : ℕ) where
  picked : (test : Bool) (n : ℕ) → (part == n) ≡ test → (own other : MachineState → PartState) → P n own → P part other → P part (λ state. cond test (own state) (other state))
  picked true n is own other here there = subst (λ k. P k own) (sym (eqb-true part n is)) here
  picked false n is own other here there = there

  -- what holds of each part under its number, in every state, holds of the part of any number
  pub numbered : P 0 (λ state. Tasks state.tasks) → P 1 (λ state. Queues state.queues) → P 2 (λ state. CountSems state.count_sems) → P 3 (λ state. BinSems state.bin_sems) → P 4 (λ state. Mutexes state.mutexes) → P 5 (λ state. Condvars state.condvars) → P 6 (λ state. Time state.time) → P 7 (λ state. Io state.io) → P 8 (λ state. Console state.console) → ((n : ℕ) → P n (λ state. Absent)) → P part (λ state. part_in part state)
  numbered tasks queues count_sems bin_sems mutexes condvars time io console none =
      picked _ 0 refl _ _ tasks (picked _ 1 refl _ _ queues (picked _ 2 refl _ _ count_sems
      (picked _ 3 refl _ _ bin_sems (picked _ 4 refl _ _ mutexes (picked _ 5 refl _ _ condvars
      (picked _ 6 refl _ _ time (picked _ 7 refl _ _ io (picked _ 8 refl _ _ console (none part)))))))))

-- what holds of each part under its number holds of the part of any number
pub by_number : (P : ℕ → PartState → Type 0) (state : MachineState) → P 0 (Tasks state.tasks) → P 1 (Queues state.queues) → P 2 (CountSems state.count_sems) → P 3 (BinSems state.bin_sems) → P 4 (Mutexes state.mutexes) → P 5 (Condvars state.condvars) → P 6 (Time state.time) → P 7 (Io state.io) → P 8 (Console state.console) → ((n : ℕ) → P n Absent) → (part : ℕ) → P part (part_in part state)
by_number P state tasks queues count_sems bin_sems mutexes condvars time io console none part =
    numbered (λ n of. P n (of state)) part tasks queues count_sems bin_sems mutexes condvars time io console none

-- a call makes a step of its part
pub own_step : (state : MachineState) (task : ℕ) (now : Moment) (made : Call) → part_in (part_of made) (step state task now made).1 ≡ (part_step (part_in (part_of made) state) task now made).1
own_step state task now made =
    numbered (λ n of. of (with_part state (part_step (of state) task now made).1) ≡ (part_step (of state) task now made).1) (part_of made) refl refl refl refl refl refl refl refl refl (λ n. refl)

-- a call changes its own part alone
pub other_kept : CallsChangeTheirPart
other_kept state task now made part other = grind (arith, nat_tests)

module _ (state : MachineState) (task : ℕ) (now : Moment) (made : Call) where
  -- a call makes a step of the part of a number that is its own
  pub own_at : (part : ℕ) → part ≡ part_of made → part_in part (step state task now made).1 ≡ (part_step (part_in part state) task now made).1
  own_at part is =
      subst (λ n. part_in n (step state task now made).1 ≡ (part_step (part_in n state) task now made).1) (sym is) (own_step state task now made)

  -- a call leaves the part of a number, or makes a step of it
  pub after_part : (part : ℕ) (P : PartState → Type 0) → P (part_in part state) → P (part_step (part_in part state) task now made).1 → P (part_in part (step state task now made).1)
  after_part part P same stepped =
      elim (cases_eq part (part_of made)) [
        | inl own ↦ subst P (sym (own_at part own)) stepped
        | inr ne ↦ subst P (sym (other_kept state task now made part ne)) same
      ]

  -- a call leaves the tasks, or makes a step of the task part
  pub after_tasks : (P : TaskState → Type 0) → P state.tasks → P (task_step state.tasks task now made).1 → P (step state task now made).1.tasks
  after_tasks P = after_part 0 (λ part. P (with_part state part).tasks)

  -- a call leaves the time, or makes a step of the time part
  pub after_time : (P : TimeState → Type 0) → P state.time → P (time_step state.time task now made).1 → P (step state task now made).1.time
  after_time P = after_part 6 (λ part. P (with_part state part).time)

  -- a call leaves the console, or makes a step of it
  pub after_console : (P : ConsoleState → Type 0) → P state.console → P (console_step state.console task now made).1 → P (step state task now made).1.console
  after_console P = after_part 8 (λ part. P (with_part state part).console)
