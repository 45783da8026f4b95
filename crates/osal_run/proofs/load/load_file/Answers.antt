use Rattle.std.proofs.Common.{subst, Ok}
use Rattle.osal_outside.specs.Causes.{WhereTold}
use Rattle.osal_outside.specs.Shelf.{OpenLeaves, AnswersUntold}
use Rattle.osal_run.proofs.Loaded.{refused_missing, open_failed, of_open, unopened}
use Rattle.osal_run.proofs.load.load_file.Goals as goal

pub returns-in-Ok-Ready-clause-told : goal.returns-in-Ok-Ready-clause-told
returns-in-Ok-Ready-clause-told g c =
    of_open (g.S.Shelf.content c.args.shelf.now) (g.S.Shelf.content c.open.new.self) c.args.name.now c.load_open.result (subst (λ opened. WhereTold (g.S.Shelf.content c.args.shelf.now) (g.S.Shelf.content c.open.new.self) (OpenLeaves c.args.name.now (Ok opened))) c.in-Ok-Ready.field-0-is c.in-Ok-Ready.ensures.told) c.load_open.ensures.told

pub returns-in-Ok-NotFound-clause-told : goal.returns-in-Ok-NotFound-clause-told
returns-in-Ok-NotFound-clause-told g c =
    refused_missing (g.S.Shelf.content c.args.shelf.now) (g.S.Shelf.content c.open.new.self) c.args.name.now (subst (λ opened. AnswersUntold (g.S.Shelf.content c.args.shelf.now) (Ok opened)) c.in-Ok-NotFound.field-0-is c.in-Ok-NotFound.ensures.untold) (subst (λ opened. WhereTold (g.S.Shelf.content c.args.shelf.now) (g.S.Shelf.content c.open.new.self) (OpenLeaves c.args.name.now (Ok opened))) c.in-Ok-NotFound.field-0-is c.in-Ok-NotFound.ensures.told)

pub returns-in-Ok-Failed-clause-told : goal.returns-in-Ok-Failed-clause-told
returns-in-Ok-Failed-clause-told g c =
    open_failed (g.S.Shelf.content c.args.shelf.now) (g.S.Shelf.content c.open.new.self) c.args.name.now (subst (λ opened. WhereTold (g.S.Shelf.content c.args.shelf.now) (g.S.Shelf.content c.open.new.self) (OpenLeaves c.args.name.now (Ok opened))) c.in-Ok-Failed.field-0-is c.in-Ok-Failed.ensures.told)

pub returns-in-Err-clause-told : goal.returns-in-Err-clause-told
returns-in-Err-clause-told g c = unopened (g.S.Shelf.content c.args.shelf.now) c.args.name.now
