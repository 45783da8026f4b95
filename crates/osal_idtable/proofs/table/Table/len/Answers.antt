use Rattle.std.proofs.Common.{sym, ap, ◌∙◌}
use Rattle.std.specs.FinMap as map
use Rattle.osal_idtable.proofs.Looks.{len_same}
use Rattle.osal_idtable.proofs.table.Table.len.Goals as goal

pub returns : goal.returns
returns g c = c.len.ensures ∙ sym (len_same _ c.self.invariant) ∙ ap (λ t. map.len t.active) c.self.view_is
