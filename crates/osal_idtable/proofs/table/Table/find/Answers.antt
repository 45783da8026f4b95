use Rattle.std.proofs.Common.{sym, ap, ◌∙◌}
use Rattle.osal_idtable.specs.Steps.{find_id}
use Rattle.osal_idtable.proofs.Looks.{find_same}
use Rattle.osal_idtable.proofs.table.Table.find.Goals as goal

pub returns : goal.returns
returns g c =
    c.find.ensures ∙ sym (find_same _ c.self.invariant c.args.name.now)
    ∙ ap (λ t. find_id t c.args.name.now) c.self.view_is
