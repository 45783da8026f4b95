use Rattle.std.proofs.Common.{option_copied, ap, ◌∙◌}
use Rattle.osal_idtable.specs.Steps.{peeked, reserve_step}
use Rattle.osal_idtable.proofs.Steps.{peek_same}
use Rattle.osal_idtable.proofs.table.Table.peek.Goals as goal

pub returns : goal.returns
returns g c =
    c.peek.ensures ∙ peek_same _ c.self.invariant (option_copied c.args.name)
    ∙ ap (λ t. peeked (reserve_step t (option_copied c.args.name)).0) c.self.view_is
