use Rattle.std.proofs.Common.{◌≡◌, Some, sym, subst}
use Rattle.std.proofs.lemmas.Result.{on_ok_weaker}
use Rattle.osal_call.specs.Call.{said}
use Rattle.osal_script.specs.declared.cursor.Step.TheVariants.{Make}
use Rattle.osal_script.specs.Cursor.{next_call, IsStep}
use Rattle.osal_exec.specs.Driving.{drive_of}
use Rattle.osal_exec.proofs.Going.{may_step, steady_on}
use Rattle.osal_exec.proofs.stage.Stage.go_on.Goals as goal

pub take-requires-clause-may : goal.take-requires-clause-may
take-requires-clause-may g c =
    let old = drive_of c.args.journal.now c.args.self.now.whole c.args.self.now.runners in
    let step : IsStep c.cursor.result.now (Make c.in-Make.line c.in-Make.call) = subst (λ s. IsStep c.cursor.result.now s) c.in-Make.is c.in_ok-step-in-Some.ensures.step in
    let next : next_call c.in-Some.runner.now.script ≡ Some (said c.in-Make.call) = subst (λ s. next_call s ≡ Some (said c.in-Make.call)) c.cursor.ensures step.0 in
    may_step c.args.app.now old c.requires.steady.driven c.args.slot c.in-Some.runner.now c.in-Make.call (sym c.in-Some.ensures) c.requires.ready next

pub take-requires-clause-creates : goal.take-requires-clause-creates
take-requires-clause-creates g c = λ creation. c.requires.steady.calm

pub returns-clause-steady : goal.returns-clause-steady
returns-clause-steady g c =
    let old = drive_of c.args.journal.now c.args.self.now.whole c.args.self.now.runners in
    let new = drive_of c.take.new.journal c.take.new.self.whole c.take.new.self.runners in
    let step : IsStep c.cursor.result.now (Make c.in-Make.line c.in-Make.call) = subst (λ s. IsStep c.cursor.result.now s) c.in-Make.is c.in_ok-step-in-Some.ensures.step in
    let next : next_call c.in-Some.runner.now.script ≡ Some (said c.in-Make.call) = subst (λ s. next_call s ≡ Some (said c.in-Make.call)) c.cursor.ensures step.0 in
    let may = may_step c.args.app.now old c.requires.steady.driven c.args.slot c.in-Some.runner.now c.in-Make.call (sym c.in-Some.ensures) c.requires.ready next in
    on_ok_weaker c.take.result (λ taken. steady_on c.args.app.now old c.requires.steady c.args.slot c.in-Some.runner.now (sym c.in-Some.ensures) c.in-Make.call next may new taken) c.take.ensures.taken
