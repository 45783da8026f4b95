-- A driver that takes a call of a task has room for its entry, and goes on as it has come.
use Rattle.std.proofs.Common.{◌≡◌, ◌<◌, ◌+◌, ◌-◌, ℕ, false, Option, Some, None, length, refl, subst, arith}
use Rattle.std.specs.List.{AllByRecursion}
use Rattle.osal_call.specs.declared.call.Call.{Call}
use Rattle.osal_call.specs.declared.call.Entry.{Entry}
use Rattle.osal_machine.specs.Step.{MachineState, step}
use Rattle.osal_laws.specs.ConsoleText.{is_drain}
use Rattle.osal_script.specs.App.{Application}
use Rattle.osal_script.specs.Cost.{cost_of}
use Rattle.osal_runs.specs.Segments.{begun}
use Rattle.osal_exec.specs.Running.{Running, runner_at, MayMake, IsIdentifier}
use Rattle.osal_exec.specs.Driving.{MakesEntry, Drive, IsDriven, MayCreate, Takes}
use Rattle.osal_exec.proofs.Begun.{begun_small}
use Rattle.osal_runs.proofs.CostLaw.{cost_bounds_entries}
use Rattle.osal_runs.proofs.Following.{next_undrained}
use Rattle.osal_exec.proofs.Driven.{spare_for, way_on, news, driven_taken}

-- the entry that a call would make
abbrev pub would : ℕ → ℕ → MachineState → Call → Entry
would caller task state made = record {
  caller = caller;
  task = task;
  now = state.time.moment;
  call = made;
  reply = record {
    answer = (step state task state.time.moment made).0.answer;
    number = (step state task state.time.moment made).0.number;
    bytes = record { bytes = (step state task state.time.moment made).0.bytes; spare = 0 };
  };
}

-- it is what the call makes
pub would_make : (caller task : ℕ) (state : MachineState) (made : Call) → MakesEntry caller task made state (step state task state.time.moment made).1 (would caller task state made)
would_make caller task state made = record {
  by_caller = refl;
  of_task = refl;
  at_moment = refl;
  of_call = refl;
  replied = refl;
  left = refl;
}

-- no call of a task drains the console
pub never_drains : (state : MachineState) (o : Option Running) (made : Call) → MayMake state o made → is_drain made ≡ false
never_drains state None made may = absurd may
never_drains state (Some runner) made may =
    next_undrained runner.script.phase runner.script made (step state runner.id state.time.moment made).0.answer may

module _ (app : Application) (drive : Drive) (driven : IsDriven app drive) (slot : ℕ) (made : Call) (may : MayMake drive.state (runner_at drive.runners slot) made) (creates : MayCreate app drive.journal.entries made) where
  -- there is room for the entry, whatever the answer
  room_at : (o : Option Running) → runner_at drive.runners slot ≡ o → MayMake drive.state o made → 0 < drive.journal.spare
  room_at None is makes = absurd makes
  room_at (Some runner) is makes =
      let entry = would (slot + 1) runner.id drive.state made in
      spare_for app drive driven entry (way_on app drive driven slot runner is made makes (step drive.state runner.id drive.state.time.moment made).1 entry (would_make (slot + 1) runner.id drive.state made) creates)

  pub room_left : 0 < drive.journal.spare
  room_left = room_at (runner_at drive.runners slot) refl may

  -- what the entry begins has an identifier of 32 bits
  pub small_begun : (runner : Running) → runner_at drive.runners slot ≡ Some runner → (left : MachineState) (entry : Entry) → MakesEntry (slot + 1) runner.id made drive.state left entry → AllByRecursion IsIdentifier (begun app entry)
  small_begun runner is left entry makes =
      begun_small drive.state (begun app entry) (news app drive driven slot runner is made (subst (λ (o : Option Running). MayMake drive.state o made) is may) left entry makes creates)

  -- the driver behind the entry
  pub driven_on : (new : Drive) → Takes app slot made drive new → IsDriven app new
  driven_on new takes =
      driven_taken app drive driven slot takes.runner takes.own made (subst (λ (o : Option Running). MayMake drive.state o made) takes.own may) new.state takes.entry takes.makes creates new takes.pushed refl takes.runners

-- each entry leaves less of the cost
pub nearer : (app : Application) (old new : Drive) → IsDriven app new → length old.journal.entries < length new.journal.entries → cost_of app - length new.journal.entries < cost_of app - length old.journal.entries
nearer app old new driven grown =
    let most = cost_bounds_entries app new.journal.entries driven.later driven.bare driven.way.part in omega arith
