use Rattle.std.proofs.Common.{◌≡◌, None, Some, option_map, sym, ap, subst, ◌∙◌}
use Rattle.osal_volume.specs.Faults.{vol_fault}
use Rattle.osal_volume.specs.Steps.{making_fault}
use Rattle.osal_volume.proofs.Calls.{making_seen}
use Rattle.osal_volume.proofs.volume.Volume.making_fault.Goals as goal

pub returns-in-None : goal.returns-in-None
returns-in-None c =
    subst (λ s. None ≡ making_fault s c.args.at.now) c.self.view_is
    (sym (making_seen c.self.inside.tree c.self.inside.blocks c.args.at.now ∙ ap (option_map vol_fault) (sym c.making_fault.ensures ∙ c.in-None.is)))

pub returns-in-Some : goal.returns-in-Some
returns-in-Some c =
    subst (λ s. Some c.vol_fault.result ≡ making_fault s c.args.at.now) c.self.view_is
    (sym (making_seen c.self.inside.tree c.self.inside.blocks c.args.at.now ∙ ap (option_map vol_fault) (sym c.making_fault.ensures ∙ c.in-Some.is) ∙ ap Some (sym c.vol_fault.ensures)))
