use Rattle.std.proofs.Common.{◌≡◌}
use Rattle.osal_laws.specs.ConsoleText.{drained}
use Rattle.osal_exec.specs.Running.{NoneRuns}
use Rattle.osal_exec.specs.Driving.{drive_of, IsSteady, Since}
use Rattle.osal_exec.proofs.stage.Stage.round.Given as goal

-- the driver is between its tasks' calls, none of which drains the console, and where it has made none no task so far went on at once
abbrev pub invariant-loop-slot : goal.invariant-loop-slot
invariant-loop-slot g l = record {
  steady : IsSteady l.app (drive_of l.journal l.self.whole l.self.runners);
  since : Since (drive_of l.initial.journal l.initial.self.whole l.initial.self.runners) (drive_of l.journal l.self.whole l.self.runners) (NoneRuns l.initial.self.whole l.initial.self.runners l.slot);
  undrained : drained l.journal.entries ≡ drained l.initial.journal.entries;
}
