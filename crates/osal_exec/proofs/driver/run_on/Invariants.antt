use Rattle.std.proofs.Common.{◌≡◌, ◌-◌, length}
use Rattle.osal_outside.specs.Causes.{WhereTold}
use Rattle.osal_outside.specs.Sink.{Appends}
use Rattle.osal_laws.specs.ConsoleText.{drained}
use Rattle.osal_script.specs.Cost.{cost_of}
use Rattle.osal_exec.specs.Driving.{drive_of, IsSteady}
use Rattle.osal_exec.proofs.driver.run_on.Given as goal

-- the driver is between its tasks' calls, and what it drained was told
abbrev pub invariant-loop : goal.invariant-loop
invariant-loop g l = record {
  steady : IsSteady l.app (drive_of l.journal l.stage.whole l.stage.runners);
  told : WhereTold (g.K.Sink.written l.fn.sink) (g.K.Sink.written l.sink) (Appends (drained l.journal.entries));
  cause : g.K.Sink.faults l.sink ≡ g.K.Sink.faults l.fn.sink;
}

abbrev pub decreases-loop : goal.decreases-loop
decreases-loop g l = cost_of l.app - length l.journal.entries
