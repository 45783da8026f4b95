use Rattle.std.proofs.Common.{subst, sym}
use Rattle.osal_script.specs.Nesting.{IsNested}
use Rattle.osal_make.proofs.Nested.{main_nests}
use Rattle.osal_make.proofs.first.main_body.Goals as goal

pub new-requires : goal.new-requires
new-requires c = subst IsNested (sym c.in_ok-items.ensures) (main_nests c.args.workers c.requires.some)
