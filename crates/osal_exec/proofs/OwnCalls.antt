-- A driver goes on by an entry of the machine itself.
use Rattle.std.proofs.Common.{◌≡◌, ◌++◌, false, [], ◌∷◌, sym, ap, subst, ◌∙◌}
use Rattle.osal_base.specs.Reply.{Replied}
use Rattle.osal_call.specs.declared.call.Call.{Call}
use Rattle.osal_call.specs.declared.call.Entry.{Entry}
use Rattle.osal_machine.specs.Step.{MachineState}
use Rattle.osal_script.specs.App.{Application}
use Rattle.osal_runs.specs.Segments.{has_segment, recorded}
use Rattle.osal_runs.specs.Linked.{newest_script, is_creation, is_leaving}
use Rattle.osal_runs.specs.UnderWay.{IsUnderWay}
use Rattle.osal_runs.proofs.LinkedSteps.{recorded_still}
use Rattle.osal_exec.specs.Running.{AreRunning}
use Rattle.osal_exec.specs.Driving.{MakesEntry, IsPushed, Drive, IsDriven, IsCalm, IsSteady}
use Rattle.osal_exec.proofs.Driven.{segments, step_of, segments_on, driven_push}

module _ (app : Application) (drive : Drive) (driven : IsDriven app drive) (made : Call) (plain : is_creation made ≡ false) (left : MachineState) (entry : Entry) (makes : MakesEntry 0 0 made drive.state left entry) (way : IsUnderWay app (drive.journal.entries ++ entry ∷ [])) where
  -- the entry joins no segment and begins none
  same_segments : recorded app (segments app drive driven) entry ≡ segments app drive driven
  same_segments =
      recorded_still app (segments app drive driven) entry (ap (has_segment (segments app drive driven)) makes.of_task ∙ driven.way.linked.nobody) (ap is_creation makes.of_call ∙ plain)

  -- the driver is steady behind it
  pub steady_by_machine : IsCalm app drive.journal.entries → (new : Drive) → IsPushed drive.journal new.journal entry → new.state ≡ left → new.runners ≡ drive.runners → IsSteady app new
  steady_by_machine calm new pushed at runners = record {
    driven = driven_push app drive driven entry way new pushed (at ∙ makes.left ∙ ap (λ (r : Replied × MachineState). r.1) (step_of app drive driven 0 0 made left entry makes)) (subst (λ list. AreRunning list new.runners) (sym same_segments) (subst (AreRunning (segments app drive driven)) (sym runners) driven.running));
    calm = λ task. ap (λ list. is_leaving (newest_script list task).phase) (segments_on app drive driven new.journal entry pushed ∙ same_segments) ∙ calm task;
  }
