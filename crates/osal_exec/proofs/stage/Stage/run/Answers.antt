use Rattle.osal_exec.specs.Driving.{drive_of}
use Rattle.osal_exec.proofs.Taking.{nearer}
use Rattle.osal_exec.proofs.stage.Stage.run.Goals as goal

pub loop-alloc-smaller : goal.loop-alloc-smaller
loop-alloc-smaller g c =
    let old = drive_of c.loop-alloc.journal c.loop-alloc.self.whole c.loop-alloc.self.runners in
    let new = drive_of c.go_on.new.journal c.go_on.new.self.whole c.go_on.new.self.runners in
    nearer c.args.app.now old new c.in_ok-go_on.ensures.steady.driven c.in_ok-go_on.ensures.grown
