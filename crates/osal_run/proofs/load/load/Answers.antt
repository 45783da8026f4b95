-- An application that is made is loaded whatever files there are.
use Rattle.std.proofs.Common.{sym, subst}
use Rattle.osal_run.specs.Asked.{asked}
use Rattle.osal_run.specs.Loading.{Loads}
use Rattle.osal_run.proofs.Loaded.{by_making}
use Rattle.osal_run.proofs.load.load.Goals as goal

pub returns-in-Make-clause-told : goal.returns-in-Make-clause-told
returns-in-Make-clause-told g c =
    subst (λ request. Loads (g.S.Shelf.content c.args.shelf.now) (asked request) c.make.result) (sym c.in-Make.is) (by_making (g.S.Shelf.content c.args.shelf.now) c.in-Make.workers c.make.result c.make.ensures.found)
