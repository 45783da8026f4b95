use Rattle.osal_rules.proofs.Found.{told_broken}
use Rattle.osal_rules.proofs.laws.told_lines_break_their_rule.Goals as goal

pub returns : goal.returns
returns c = told_broken
