use Rattle.osal_outside.proofs.Found.{there, nowhere}
use Rattle.osal_outside.proofs.files.place_of.Goals as goal

pub returns-clause-there : goal.returns-clause-there
returns-clause-there c = there c.args.files.now c.args.name.now c.first_named.result c.first_named.ensures

pub returns-clause-none : goal.returns-clause-none
returns-clause-none c = nowhere c.args.files.now c.args.name.now c.first_named.result c.first_named.ensures
