use Rattle.std.proofs.Common.{sym, ap, ◌∙◌}
use Rattle.osal_idtable.specs.Steps.{is_reserved}
use Rattle.osal_idtable.proofs.Steps.{is_reserved_same}
use Rattle.osal_idtable.proofs.table.Table.is_reserved.Goals as goal

pub returns : goal.returns
returns g c =
    c.is_reserved.ensures ∙ sym (is_reserved_same _ c.self.invariant c.args.id)
    ∙ ap (λ t. is_reserved t c.args.id) c.self.view_is
