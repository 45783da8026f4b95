use Rattle.std.proofs.Common.{ap, ◌∙◌}
use Rattle.osal_idtable.specs.Holds.{hold_step}
use Rattle.osal_idtable.proofs.Steps.{seen, sound_after}
use Rattle.osal_idtable.proofs.Holding.{hold_same, hold_sound}
use Rattle.osal_idtable.proofs.table.Table.hold.Goals as goal

pub invariant_of-self : goal.invariant_of-self
invariant_of-self g c = sound_after c.hold.ensures (hold_sound _ c.self.invariant c.args.id)

pub returns : goal.returns
returns g c =
    ap seen c.hold.ensures ∙ hold_same _ c.self.invariant c.args.id ∙ ap (λ t. hold_step t c.args.id) c.self.view_is
