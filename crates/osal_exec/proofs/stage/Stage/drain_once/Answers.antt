use Rattle.std.proofs.Common.{refl, ap, subst}
use Rattle.osal_outside.specs.Causes.{WhereTold}
use Rattle.osal_outside.specs.Sink.{Appends, AppendsPrefix}
use Rattle.osal_laws.specs.ConsoleText.{is_drain}
use Rattle.osal_exec.specs.Driving.{drive_of}
use Rattle.osal_exec.proofs.Draining.{drain_spared, drained_on}
use Rattle.osal_exec.proofs.Telling.{drain_tells, drain_tells_prefix}
use Rattle.osal_exec.proofs.stage.Stage.drain_once.Goals as goal

pub push-requires : goal.push-requires
push-requires g c =
    let old = drive_of c.args.journal.now c.args.self.now.whole c.args.self.now.runners in
    drain_spared c.args.app.now old c.requires.steady.driven c.requires.some

pub returns-in-Ok-sent-clause-steady : goal.returns-in-Ok-sent-clause-steady
returns-in-Ok-sent-clause-steady g c =
    let old = drive_of c.args.journal.now c.args.self.now.whole c.args.self.now.runners in
    let new = drive_of c.push.new.self c.entry_of.new.whole c.args.self.now.runners in
    drained_on c.args.app.now old c.requires.steady c.requires.some new c.in-Ok.made c.in-Ok.ensures (record { entries = c.push.ensures.entries; spare = c.push.ensures.spare }) refl

pub returns-in-Ok-sent-clause-told : goal.returns-in-Ok-sent-clause-told
returns-in-Ok-sent-clause-told g c =
    let before = g.K.Sink.written c.args.sink.now in
    let after = g.K.Sink.written c.send_all-sent.new.sink in
    drain_tells c.args.journal.now.entries c.push.new.self.entries c.in-Ok.made c.push.ensures.entries before after (ap is_drain c.in-Ok.ensures.of_call)
    (subst (λ bytes. WhereTold before after (Appends bytes)) c.as_slice.ensures c.in-Ok-sent.ensures.all)

pub returns-in-Ok-sent-clause-prefix : goal.returns-in-Ok-sent-clause-prefix
returns-in-Ok-sent-clause-prefix g c =
    let before = g.K.Sink.written c.args.sink.now in
    let after = g.K.Sink.written c.send_all-sent.new.sink in
    drain_tells_prefix c.args.journal.now.entries c.push.new.self.entries c.in-Ok.made c.push.ensures.entries before after (ap is_drain c.in-Ok.ensures.of_call)
    (subst (λ bytes. WhereTold before after (AppendsPrefix bytes)) c.as_slice.ensures c.in-Ok-sent.ensures.prefix)

pub returns-in-Err-clause-halted : goal.returns-in-Err-clause-halted
returns-in-Err-clause-halted g c =
    let old = drive_of c.args.journal.now c.args.self.now.whole c.args.self.now.runners in
    let new = drive_of c.push.new.self c.entry_of.new.whole c.args.self.now.runners in
    (drained_on c.args.app.now old c.requires.steady c.requires.some new c.in-Ok.made c.in-Ok.ensures (record { entries = c.push.ensures.entries; spare = c.push.ensures.spare }) refl).driven.way.part

pub returns-in-Err-clause-prefix : goal.returns-in-Err-clause-prefix
returns-in-Err-clause-prefix g c =
    let before = g.K.Sink.written c.args.sink.now in
    let after = g.K.Sink.written c.send_all-sent.new.sink in
    drain_tells_prefix c.args.journal.now.entries c.push.new.self.entries c.in-Ok.made c.push.ensures.entries before after (ap is_drain c.in-Ok.ensures.of_call)
    (subst (λ bytes. WhereTold before after (AppendsPrefix bytes)) c.as_slice.ensures c.in-Err.ensures.prefix)
