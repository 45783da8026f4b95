use Rattle.std.proofs.Common.{◌≡◌, ◌-◌, length}
use Rattle.osal_script.specs.Cost.{cost_of}
use Rattle.osal_exec.specs.Driving.{drive_of, IsSteady, Since}
use Rattle.osal_exec.specs.Telling.{Tells}
use Rattle.osal_exec.proofs.stage.Stage.drain.Given as goal

-- the driver is between its tasks' calls, what it drained was told, and all is as it was where it drained nothing
abbrev pub invariant-loop-alloc : goal.invariant-loop-alloc
invariant-loop-alloc g l = record {
  steady : IsSteady l.app (drive_of l.journal l.self.whole l.self.runners);
  since : Since (drive_of l.initial.journal l.initial.self.whole l.initial.self.runners) (drive_of l.journal l.self.whole l.self.runners) (Unit {0});
  told : Tells l.initial.journal.entries l.journal.entries (g.K.Sink.written l.initial.sink) (g.K.Sink.written l.sink);
  cause : g.K.Sink.faults l.sink ≡ g.K.Sink.faults l.initial.sink;
}

abbrev pub decreases-loop-alloc : goal.decreases-loop-alloc
decreases-loop-alloc g l = cost_of l.app - length l.journal.entries
