use Rattle.std.proofs.Common.{◌≡◌}
use Rattle.osal_laws.specs.ConsoleText.{drained}
use Rattle.osal_exec.specs.Running.{NoneIsLost}
use Rattle.osal_exec.specs.Driving.{drive_of, IsSteady, Since}
use Rattle.osal_exec.proofs.stage.Stage.leave_all.Given as goal

-- the driver is between its tasks' calls, none of which drains the console, and where it has made none no task so far waits though it was deleted
abbrev pub invariant-loop-slot : goal.invariant-loop-slot
invariant-loop-slot g l = record {
  steady : IsSteady l.app (drive_of l.journal l.self.whole l.self.runners);
  since : Since (drive_of l.initial.journal l.initial.self.whole l.initial.self.runners) (drive_of l.journal l.self.whole l.self.runners) (NoneIsLost l.initial.self.whole l.initial.self.runners l.slot);
  undrained : drained l.journal.entries ≡ drained l.initial.journal.entries;
}
