-- A driver goes on by a drain of the console.
use Rattle.std.proofs.Common.{◌≡◌, ◌<◌, ◌++◌, true, [], ◌∷◌, refl, sym, ap, ◌∙◌}
use Rattle.osal_base.specs.Reply.{Replied}
use Rattle.osal_call.specs.declared.call.Call.TheVariants as call
use Rattle.osal_call.specs.declared.call.Entry.{Entry}
use Rattle.osal_console.specs.Console.{is_pending}
use Rattle.osal_machine.specs.Step.{MachineState, step}
use Rattle.osal_script.specs.App.{Application}
use Rattle.osal_runs.specs.UnderWay.{IsUnderWay}
use Rattle.osal_runs.proofs.UnderWay.{console_drains}
use Rattle.osal_exec.specs.Driving.{MakesEntry, IsPushed, Drive, IsDriven, IsSteady}
use Rattle.osal_exec.proofs.Taking.{would, would_make}
use Rattle.osal_exec.proofs.Driven.{step_of, spare_for}
use Rattle.osal_exec.proofs.OwnCalls.{steady_by_machine}

module _ (app : Application) (drive : Drive) (driven : IsDriven app drive) (some : is_pending drive.state.console ≡ true) where
  -- the run is under way with the entry of a drain
  way_drained : (left : MachineState) (entry : Entry) → MakesEntry 0 0 (call.Drain 1024) drive.state left entry → IsUnderWay app (drive.journal.entries ++ entry ∷ [])
  way_drained left entry makes =
      console_drains app drive.journal.entries entry driven.way
      (record {
        caller = makes.by_caller;
        task = makes.of_task;
        call = makes.of_call;
        now = makes.at_moment ∙ ap (λ (s : MachineState). s.time.moment) driven.replayed;
        pending = ap (λ (s : MachineState). is_pending s.console) (sym driven.replayed) ∙ some;
      })
      (makes.replied ∙ ap (λ (r : Replied × MachineState). r.0) (step_of app drive driven 0 0 (call.Drain 1024) left entry makes))

  -- there is room for it
  pub drain_spared : 0 < drive.journal.spare
  drain_spared =
      let entry = would 0 0 drive.state (call.Drain 1024) in
      spare_for app drive driven entry (way_drained (step drive.state 0 drive.state.time.moment (call.Drain 1024)).1 entry (would_make 0 0 drive.state (call.Drain 1024)))

-- the driver is steady behind a drain
pub drained_on : (app : Application) (old : Drive) → IsSteady app old → is_pending old.state.console ≡ true → (new : Drive) (entry : Entry) → MakesEntry 0 0 (call.Drain 1024) old.state new.state entry → IsPushed old.journal new.journal entry → new.runners ≡ old.runners → IsSteady app new
drained_on app old steady some new entry makes pushed runners =
    steady_by_machine app old steady.driven (call.Drain 1024) refl new.state entry makes (way_drained app old steady.driven some new.state entry makes) steady.calm new pushed refl runners
