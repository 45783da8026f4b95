use Rattle.osal_exec.proofs.Telling.{text_told, text_prefix}
use Rattle.osal_exec.proofs.driver.drive.Goals as goal

pub returns-in-Ok-clause-written : goal.returns-in-Ok-clause-written
returns-in-Ok-clause-written g c =
    let run = c.in-Ok.ensures.settled in
    λ settled. text_told c.run_tasks.new.journal.entries run.part.legal (g.K.Sink.written c.args.sink.now) (g.K.Sink.written c.run_tasks.new.sink) run.settled.drained c.in-Ok.ensures.told

pub returns-in-Ok-clause-prefix : goal.returns-in-Ok-clause-prefix
returns-in-Ok-clause-prefix g c =
    text_prefix c.run_tasks.new.journal.entries c.in-Ok.ensures.settled.part.legal (g.K.Sink.written c.args.sink.now) (g.K.Sink.written c.run_tasks.new.sink) c.in-Ok.ensures.prefix

pub returns-in-Err-SinkFault-clause-prefix : goal.returns-in-Err-SinkFault-clause-prefix
returns-in-Err-SinkFault-clause-prefix g c =
    text_prefix c.run_tasks.new.journal.entries c.in-Err-SinkFault.ensures.halted.legal (g.K.Sink.written c.args.sink.now) (g.K.Sink.written c.run_tasks.new.sink) c.in-Err-SinkFault.ensures.prefix

pub returns-in-Err-OutOfMemory-clause-prefix : goal.returns-in-Err-OutOfMemory-clause-prefix
returns-in-Err-OutOfMemory-clause-prefix g c =
    text_prefix c.run_tasks.new.journal.entries c.in-Err-OutOfMemory.ensures.halted.legal (g.K.Sink.written c.args.sink.now) (g.K.Sink.written c.run_tasks.new.sink) c.in-Err-OutOfMemory.ensures.prefix
