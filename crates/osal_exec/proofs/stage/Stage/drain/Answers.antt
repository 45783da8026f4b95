use Rattle.std.proofs.Common.{◌≤◌, length, inl, ◌∙◌, arith}
use Rattle.osal_exec.specs.Driving.{drive_of}
use Rattle.osal_exec.proofs.Settling.{no_shorter}
use Rattle.osal_exec.proofs.Taking.{nearer}
use Rattle.osal_exec.proofs.Telling.{tells_more, tells_prefix, tells_as_prefix}
use Rattle.osal_exec.proofs.stage.Stage.drain.Goals as goal

pub loop-alloc-smaller : goal.loop-alloc-smaller
loop-alloc-smaller g c =
    let old = drive_of c.loop-alloc.journal c.loop-alloc.self.whole c.loop-alloc.self.runners in
    let new = drive_of c.drain_once.new.journal c.drain_once.new.self.whole c.drain_once.new.self.runners in
    nearer c.args.app.now old new c.in_ok-drain_once.ensures.steady.driven c.in_ok-drain_once.ensures.grown

pub loop-alloc-preserved : goal.loop-alloc-preserved
loop-alloc-preserved g c =
    let first = drive_of c.args.journal.now c.args.self.now.whole c.args.self.now.runners in
    let old = drive_of c.loop-alloc.journal c.loop-alloc.self.whole c.loop-alloc.self.runners in
    let most : length c.args.journal.now.entries ≤ length c.loop-alloc.journal.entries = no_shorter first old (Unit {0}) c.loop-alloc.invariant.since in
    record {
      steady = c.in_ok-drain_once.ensures.steady;
      since = inl (let more = c.in_ok-drain_once.ensures.grown in omega arith);
      told = tells_more c.args.journal.now.entries c.loop-alloc.journal.entries c.drain_once.new.journal.entries (g.K.Sink.written c.args.sink.now) (g.K.Sink.written c.loop-alloc.sink) (g.K.Sink.written c.drain_once.new.sink) c.loop-alloc.invariant.told c.in_ok-drain_once.ensures.told;
      cause = c.in_ok-drain_once.ensures.cause ∙ c.loop-alloc.invariant.cause;
    }

pub returns-in_err-drain_once-clause-prefix : goal.returns-in_err-drain_once-clause-prefix
returns-in_err-drain_once-clause-prefix g c =
    tells_prefix c.args.journal.now.entries c.loop-alloc.journal.entries c.drain_once.new.journal.entries (g.K.Sink.written c.args.sink.now) (g.K.Sink.written c.loop-alloc.sink) (g.K.Sink.written c.drain_once.new.sink) c.loop-alloc.invariant.told c.in_err-drain_once.ensures.prefix

pub returns-clause-prefix : goal.returns-clause-prefix
returns-clause-prefix g c =
    tells_as_prefix c.args.journal.now.entries c.loop-alloc.journal.entries (g.K.Sink.written c.args.sink.now) (g.K.Sink.written c.loop-alloc.sink) c.loop-alloc.invariant.told
