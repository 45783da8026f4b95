use Rattle.std.proofs.Common.{ap, ◌∙◌}
use Rattle.osal_idtable.specs.Holds.{release_step}
use Rattle.osal_idtable.proofs.Steps.{seen, sound_after}
use Rattle.osal_idtable.proofs.Holding.{release_same, release_sound}
use Rattle.osal_idtable.proofs.table.Table.release.Goals as goal

pub invariant_of-self : goal.invariant_of-self
invariant_of-self g c = sound_after c.release.ensures (release_sound _ c.self.invariant c.args.id)

pub returns : goal.returns
returns g c =
    ap seen c.release.ensures ∙ release_same _ c.self.invariant c.args.id ∙ ap (λ t. release_step t c.args.id) c.self.view_is
