use Rattle.osal_object.proofs.Turns.{turn_told}
use Rattle.osal_object.proofs.waits.Waits.turn_of.Goals as goal

pub returns : goal.returns
returns g c =
    rw (← c.self.view_is) (turn_told c.self.invariant.0 c.args.task c.turn_by.result (rw (← c.as_slice.ensures.value) c.turn_by.ensures))
