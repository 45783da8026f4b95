use Rattle.osal_rules.proofs.Told.{first_bad_told}
use Rattle.osal_rules.proofs.laws.the_first_bad_line_is_told.Goals as goal

pub returns : goal.returns
returns c = first_bad_told
