use Rattle.osal_nested.proofs.Unique.{nesting_unique}
use Rattle.osal_nested.proofs.laws.nesting_is_unique.Goals as goal

pub returns : goal.returns
returns c = nesting_unique
