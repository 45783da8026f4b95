-- What is left at each return, by how far the run has come.
use Rattle.std.proofs.Common.{ap, ◌∙◌}
use Rattle.std.specs.Prelude.{option_copied}
use Rattle.osal_run.proofs.Finishing.{lent, cut_short, half_written, whole_written}
use Rattle.osal_run.proofs.runner.execute.Goals as goal

pub returns-in-SinkFault-clause-left : goal.returns-in-SinkFault-clause-left
returns-in-SinkFault-clause-left g c words asks =
    cut_short (g.K.Sink.written c.args.sink.now) (g.K.Sink.written c.drive.new.sink) words c.args.app.now c.drive.new.journal.entries c.drive.ensures.part c.drive.ensures.prefix

pub returns-in-OutOfMemory-clause-left : goal.returns-in-OutOfMemory-clause-left
returns-in-OutOfMemory-clause-left g c words asks =
    cut_short (g.K.Sink.written c.args.sink.now) (g.K.Sink.written c.drive.new.sink) words c.args.app.now c.drive.new.journal.entries c.drive.ensures.part c.drive.ensures.prefix

pub returns-in_default-clause-left : goal.returns-in_default-clause-left
returns-in_default-clause-left g c words asks =
    cut_short (g.K.Sink.written c.args.sink.now) (g.K.Sink.written c.drive.new.sink) words c.args.app.now c.drive.new.journal.entries c.drive.ensures.part c.drive.ensures.prefix

pub returns-in-Ok-write_rest-clause-left : goal.returns-in-Ok-write_rest-clause-left
returns-in-Ok-write_rest-clause-left g c words asks =
    let shows = ap option_copied c.then_some-shown.ensures ∙ lent c.args.shows_journal _ in
    whole_written (g.K.Sink.written c.args.sink.now) (g.K.Sink.written c.drive.new.sink) (g.K.Sink.written c.write_rest.new.sink) words c.args.shows_journal c.args.app.now c.drive.new.journal c.in-Ok.summary.report.bytes (option_copied c.then_some-shown.result) c.finished.result asks c.in-Ok.ensures.report shows c.finished.ensures.done (c.finished.ensures.value ∙ c.in-Ok.ensures.status) (c.drive.ensures.settled c.in-Settled.is) (c.drive.ensures.written c.in-Settled.is) c.in-Ok-write_rest.ensures.all

pub returns-in-Err-WriteFailed-clause-left : goal.returns-in-Err-WriteFailed-clause-left
returns-in-Err-WriteFailed-clause-left g c words asks =
    let shows = ap option_copied c.then_some-shown.ensures ∙ lent c.args.shows_journal _ in
    half_written (g.K.Sink.written c.args.sink.now) (g.K.Sink.written c.drive.new.sink) (g.K.Sink.written c.write_rest.new.sink) words c.args.shows_journal c.args.app.now c.drive.new.journal c.in-Ok.summary.report.bytes (option_copied c.then_some-shown.result) asks c.in-Ok.ensures.report shows c.drive.ensures.part (c.drive.ensures.written c.in-Settled.is) c.write_rest.ensures.prefix

pub returns-clause-left : goal.returns-clause-left
returns-clause-left g c words asks =
    let shows = ap option_copied c.then_some-shown.ensures ∙ lent c.args.shows_journal _ in
    half_written (g.K.Sink.written c.args.sink.now) (g.K.Sink.written c.drive.new.sink) (g.K.Sink.written c.write_rest.new.sink) words c.args.shows_journal c.args.app.now c.drive.new.journal c.in-Ok.summary.report.bytes (option_copied c.then_some-shown.result) asks c.in-Ok.ensures.report shows c.drive.ensures.part (c.drive.ensures.written c.in-Settled.is) c.write_rest.ensures.prefix
