use Rattle.std.proofs.Common.{arith}
use Rattle.osal_exec.specs.Driving.{drive_of}
use Rattle.osal_exec.proofs.Empty.{since_none_is_lost}
use Rattle.osal_exec.proofs.stage.Stage.leave_all.Goals as goal

pub returns-clause-still : goal.returns-clause-still
returns-clause-still g c =
    let old = drive_of c.args.journal.now c.args.self.now.whole c.args.self.now.runners in
    let new = drive_of c.loop-slot.journal c.loop-slot.self.whole c.loop-slot.self.runners in
    since_none_is_lost old new c.loop-slot.slot (λ k past. c.used-used.ensures.rest k (omega (arith, c.loop-slot-test.false))) c.loop-slot.invariant.since
