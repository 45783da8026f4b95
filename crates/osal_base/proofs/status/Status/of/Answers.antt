-- No status has the number, so the table has none.
use Rattle.std.proofs.Common.{rules, sym}
use Rattle.osal_base.proofs.Statuses.{status_of_none}
use Rattle.osal_base.proofs.status.Status.of.Goals as goal

pub returns-in_default-clause-table : goal.returns-in_default-clause-table
returns-in_default-clause-table c = sym (status_of_none c.args.number (search rules))
