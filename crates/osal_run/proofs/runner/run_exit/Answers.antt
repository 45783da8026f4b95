-- What is left at each return, by what the words ask for and what was loaded.
use Rattle.std.proofs.Common.{map, string_bytes}
use Rattle.osal_run.specs.Asked.{asked}
use Rattle.osal_run.proofs.Left.{unasked}
use Rattle.osal_run.proofs.Workers.{asked_has}
use Rattle.osal_run.proofs.runner.run_exit.Goals as goal

pub returns-in_default-clause-leaves : goal.returns-in_default-clause-leaves
returns-in_default-clause-leaves g c =
    unasked (g.S.Shelf.content c.args.shelf.now) (map string_bytes c.args.words.now) c.refuse.result c.clear.new.self.entries (g.K.Sink.written c.args.sink.now) (g.K.Sink.written c.refuse.new.sink) c.in_default.ensures c.clear.ensures.entries (c.refuse.ensures.left (map string_bytes c.args.words.now))

pub load-requires : goal.load-requires
load-requires g c =
    asked_has (map string_bytes c.args.words.now) (asked c.in-Some.request) c.in-Some.ensures
