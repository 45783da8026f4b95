use Rattle.std.proofs.Common.{◌≡◌, subst, ◌∙◌}
use Rattle.osal_volume.specs.Steps.{create_step}
use Rattle.osal_volume.specs.Whole.{volume_of}
use Rattle.osal_volume.proofs.Held.{held_is, held_whole}
use Rattle.osal_volume.proofs.Calls.{created_held, created_is}
use Rattle.osal_volume.proofs.volume.Volume.create.Goals as goal

pub invariant_of-self : goal.invariant_of-self
invariant_of-self c =
    held_whole (created_held c.self.inside.tree c.self.inside.blocks c.self.invariant c.args.at.now c.create.result c.create.ensures.made c.create.ensures.refused)

pub returns : goal.returns
returns c =
    let held = created_held c.self.inside.tree c.self.inside.blocks c.self.invariant c.args.at.now c.create.result c.create.ensures.made c.create.ensures.refused in
    let told = created_is c.self.inside.tree c.self.inside.blocks c.args.at.now c.create.new.self c.create.result c.create.ensures.made c.create.ensures.refused in
    subst (λ s. (c.answered.result, volume_of c.create.new.self c.self.inside.blocks) ≡ create_step s c.args.at.now) c.self.view_is
    ((λ i. (c.answered.ensures i, held_is held i)) ∙ told)
