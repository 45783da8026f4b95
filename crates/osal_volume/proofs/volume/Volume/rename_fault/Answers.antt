use Rattle.std.proofs.Common.{◌≡◌, None, Some, option_map, sym, ap, subst, ◌∙◌}
use Rattle.osal_volume.specs.Faults.{vol_fault}
use Rattle.osal_volume.specs.Renames.{rename_fault}
use Rattle.osal_volume.proofs.Renames.{moving_seen}
use Rattle.osal_volume.proofs.volume.Volume.rename_fault.Goals as goal

pub returns-in-None : goal.returns-in-None
returns-in-None c =
    subst (λ s. None ≡ rename_fault s c.args.from.now c.args.to.now) c.self.view_is
    (sym (moving_seen c.self.inside.tree c.self.inside.blocks c.args.from.now c.args.to.now ∙ ap (option_map vol_fault) (sym c.rename_fault.ensures ∙ c.in-None.is)))

pub returns-in-Some : goal.returns-in-Some
returns-in-Some c =
    subst (λ s. Some c.vol_fault.result ≡ rename_fault s c.args.from.now c.args.to.now) c.self.view_is
    (sym (moving_seen c.self.inside.tree c.self.inside.blocks c.args.from.now c.args.to.now ∙ ap (option_map vol_fault) (sym c.rename_fault.ensures ∙ c.in-Some.is) ∙ ap Some (sym c.vol_fault.ensures)))
