use Rattle.std.proofs.Common.{true, subst, ◌∙◌}
use Rattle.osal_laws.specs.ConsoleText.{drained}
use Rattle.osal_runs.specs.Runs.{IsRun}
use Rattle.osal_runs.proofs.CostLaw.{cost_bounds_entries}
use Rattle.osal_exec.specs.Driving.{drive_of, HasTurned}
use Rattle.osal_exec.proofs.Taking.{nearer}
use Rattle.osal_outside.proofs.Appended.{whole_prefix}
use Rattle.osal_exec.proofs.Telling.{drained_told, drained_prefix}
use Rattle.osal_exec.proofs.driver.run_on.Goals as goal

pub loop-smaller : goal.loop-smaller
loop-smaller g c =
    let old = drive_of c.loop.journal c.loop.stage.whole c.loop.stage.runners in
    let new = drive_of c.turn.new.journal c.turn.new.self.whole c.turn.new.self.runners in
    let turned : HasTurned c.args.app.now old new true = subst (HasTurned c.args.app.now old new) c.if-branch.true c.in_ok-turn.ensures.turned in
    nearer c.args.app.now old new turned.0.driven turned.1

pub returns-in_err-turn-clause-few : goal.returns-in_err-turn-clause-few
returns-in_err-turn-clause-few g c =
    let driven = c.loop.invariant.steady.driven in
    cost_bounds_entries c.args.app.now c.turn.new.journal.entries driven.later driven.bare c.in_err-turn.ensures.halted

pub returns-clause-few : goal.returns-clause-few
returns-clause-few g c =
    let old = drive_of c.loop.journal c.loop.stage.whole c.loop.stage.runners in
    let new = drive_of c.turn.new.journal c.turn.new.self.whole c.turn.new.self.runners in
    let driven = c.loop.invariant.steady.driven in
    let run : IsRun c.args.app.now new.journal.entries = subst (HasTurned c.args.app.now old new) c.if-branch.false c.in_ok-turn.ensures.turned in
    cost_bounds_entries c.args.app.now new.journal.entries driven.later driven.bare run.part

pub loop-preserved : goal.loop-preserved
loop-preserved g c =
    let old = drive_of c.loop.journal c.loop.stage.whole c.loop.stage.runners in
    let new = drive_of c.turn.new.journal c.turn.new.self.whole c.turn.new.self.runners in
    let turned : HasTurned c.args.app.now old new true = subst (HasTurned c.args.app.now old new) c.if-branch.true c.in_ok-turn.ensures.turned in
    record {
      steady = turned.0;
      told = drained_told c.loop.journal.entries c.turn.new.journal.entries (g.K.Sink.written c.args.sink.now) (g.K.Sink.written c.loop.sink) (g.K.Sink.written c.turn.new.sink) c.loop.invariant.told c.in_ok-turn.ensures.told;
      cause = c.in_ok-turn.ensures.cause ∙ c.loop.invariant.cause;
    }

pub returns-in_err-turn-clause-prefix : goal.returns-in_err-turn-clause-prefix
returns-in_err-turn-clause-prefix g c =
    drained_prefix c.loop.journal.entries c.turn.new.journal.entries (g.K.Sink.written c.args.sink.now) (g.K.Sink.written c.loop.sink) (g.K.Sink.written c.turn.new.sink) c.loop.invariant.told c.in_err-turn.ensures.prefix

pub returns-clause-told : goal.returns-clause-told
returns-clause-told g c =
    drained_told c.loop.journal.entries c.turn.new.journal.entries (g.K.Sink.written c.args.sink.now) (g.K.Sink.written c.loop.sink) (g.K.Sink.written c.turn.new.sink) c.loop.invariant.told c.in_ok-turn.ensures.told

pub returns-clause-prefix : goal.returns-clause-prefix
returns-clause-prefix g c =
    let before = g.K.Sink.written c.args.sink.now in
    let after = g.K.Sink.written c.turn.new.sink in
    whole_prefix before after (drained c.turn.new.journal.entries) (drained_told c.loop.journal.entries c.turn.new.journal.entries before (g.K.Sink.written c.loop.sink) after c.loop.invariant.told c.in_ok-turn.ensures.told)
