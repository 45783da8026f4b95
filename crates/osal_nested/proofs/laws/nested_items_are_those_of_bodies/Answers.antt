use Rattle.osal_nested.proofs.Flat.{items_nested}
use Rattle.osal_nested.proofs.laws.nested_items_are_those_of_bodies.Goals as goal

pub returns : goal.returns
returns c = items_nested
