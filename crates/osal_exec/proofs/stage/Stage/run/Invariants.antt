use Rattle.std.proofs.Common.{◌≡◌, ◌-◌, length}
use Rattle.osal_script.specs.Cost.{cost_of}
use Rattle.osal_laws.specs.ConsoleText.{drained}
use Rattle.osal_exec.specs.Driving.{drive_of, IsSteady, Since}
use Rattle.osal_exec.proofs.stage.Stage.run.Given as goal

-- the driver is between its tasks' calls, none of which drains the console, and all is as it was where it has made none
abbrev pub invariant-loop-alloc : goal.invariant-loop-alloc
invariant-loop-alloc g l = record {
  steady : IsSteady l.app (drive_of l.journal l.self.whole l.self.runners);
  since : Since (drive_of l.initial.journal l.initial.self.whole l.initial.self.runners) (drive_of l.journal l.self.whole l.self.runners) (Unit {0});
  undrained : drained l.journal.entries ≡ drained l.initial.journal.entries;
}

abbrev pub decreases-loop-alloc : goal.decreases-loop-alloc
decreases-loop-alloc g l = cost_of l.app - length l.journal.entries
