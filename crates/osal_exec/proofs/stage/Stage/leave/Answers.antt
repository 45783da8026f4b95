use Rattle.std.proofs.lemmas.Result.{on_ok_weaker}
use Rattle.osal_exec.specs.Driving.{drive_of}
use Rattle.osal_exec.proofs.Going.{may_tell, steady_left}
use Rattle.osal_exec.proofs.stage.Stage.leave.Goals as goal

pub take-requires-clause-may : goal.take-requires-clause-may
take-requires-clause-may g c =
    let old = drive_of c.args.journal.now c.args.self.now.whole c.args.self.now.runners in
    may_tell c.args.app.now old c.requires.steady.driven c.args.slot c.args.part c.requires.lost

pub returns-clause-steady : goal.returns-clause-steady
returns-clause-steady g c =
    let old = drive_of c.args.journal.now c.args.self.now.whole c.args.self.now.runners in
    let mid = drive_of c.take.new.journal c.take.new.self.whole c.take.new.self.runners in
    let new = drive_of c.take-2.new.journal c.take-2.new.self.whole c.take-2.new.self.runners in
    on_ok_weaker c.take-2.result (λ second. steady_left c.args.app.now old c.requires.steady c.args.slot c.args.part c.requires.lost mid c.in_ok-take.ensures.taken new second) c.take-2.ensures.taken
