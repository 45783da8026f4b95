use Rattle.std.proofs.Common.{subst}
use Rattle.osal_script.specs.Nesting.{IsNested}
use Rattle.osal_nested.proofs.Nestings.{body_nests}
use Rattle.osal_nested.proofs.laws.bodies_nest.Goals as goal

pub returns : goal.returns
returns c = body_nests c.args.body.now (subst IsNested c.items-items.ensures.value c.items-items.ensures.nested)
