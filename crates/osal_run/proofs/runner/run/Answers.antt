use Rattle.std.proofs.Common.{map, string_bytes, sym, subst}
use Rattle.osal_outside.specs.Causes.{Rose}
use Rattle.osal_run.specs.Checks.{check_of}
use Rattle.osal_run.specs.Loading.{IfTold}
use Rattle.osal_run.specs.Outcome.{Completes, TellsFaults}
use Rattle.osal_run.proofs.Complete.{completes}
use Rattle.osal_run.proofs.runner.run.Goals as goal

pub returns-clause-leaves : goal.returns-clause-leaves
returns-clause-leaves g c = (c.run_exit.result, sym c.number.ensures, c.run_exit.ensures.leaves)

pub returns-clause-complete : goal.returns-clause-complete
returns-clause-complete g c =
    let before = g.S.Shelf.faults c.args.shelf.now in
    let now = g.S.Shelf.faults c.run_exit.new.shelf in
    let sink_before = g.K.Sink.faults c.args.sink.now in
    let sink_now = g.K.Sink.faults c.run_exit.new.sink in
    subst (λ status. IfTold (g.S.Shelf.content c.args.shelf.now) (λ told. Completes status (Rose before now) (Rose sink_before sink_now) (check_of told.files (map string_bytes c.args.words.now)))) (sym c.number.ensures)
    (completes (g.S.Shelf.content c.args.shelf.now) (map string_bytes c.args.words.now) c.run_exit.result c.run_exit.new.journal.entries (g.K.Sink.written c.args.sink.now) (g.K.Sink.written c.run_exit.new.sink) before now sink_before sink_now c.run_exit.ensures.leaves c.run_exit.ensures.faults.source c.run_exit.ensures.faults.sink)

pub returns-clause-faults : goal.returns-clause-faults
returns-clause-faults g c =
    subst (λ status. TellsFaults status (g.S.Shelf.faults c.args.shelf.now) (g.S.Shelf.faults c.run_exit.new.shelf) (g.K.Sink.faults c.args.sink.now) (g.K.Sink.faults c.run_exit.new.sink)) (sym c.number.ensures) c.run_exit.ensures.faults
