use Rattle.std.proofs.Common.{ap, ◌∙◌}
use Rattle.osal_idtable.specs.Steps.{remove_step}
use Rattle.osal_idtable.proofs.Steps.{seen, sound_after, remove_same, remove_sound}
use Rattle.osal_idtable.proofs.table.Table.remove.Goals as goal

pub invariant_of-self : goal.invariant_of-self
invariant_of-self g c = sound_after c.remove.ensures (remove_sound _ c.self.invariant c.args.id)

pub returns : goal.returns
returns g c =
    ap seen c.remove.ensures ∙ remove_same _ c.self.invariant c.args.id
    ∙ ap (λ t. remove_step t c.args.id) c.self.view_is
