use Rattle.std.proofs.Common.{◌≡◌, Err, Ok, Some, option_map, sym, ap, subst, ◌∙◌}
use Rattle.osal_volume.specs.declared.fault.VolFault.TheVariants as fault
use Rattle.osal_volume.specs.Faults.{vol_fault}
use Rattle.osal_volume.specs.Steps.{or_full, mkdir_step}
use Rattle.osal_volume.specs.Whole.{volume_of}
use Rattle.osal_volume.proofs.Held.{held_whole}
use Rattle.osal_volume.proofs.Calls.{making_seen, mkdir_held, full_is, zero_is, more_is, done_is, refused_is}
use Rattle.osal_volume.proofs.volume.Volume.mkdir.Goals as goal

pub invariant_of-self : goal.invariant_of-self
invariant_of-self c =
    held_whole (mkdir_held c.self.inside.tree c.self.inside.blocks c.self.invariant c.args.at.now (sym c.making_fault.ensures ∙ c.in_default.is) c.mkdir.ensures c.reserve.ensures)

pub returns : goal.returns
returns c =
    let none = sym c.making_fault.ensures ∙ c.in_default.is in
    subst (λ s. (Ok tt, volume_of c.mkdir.new.self c.reserve.new.self) ≡ mkdir_step s c.args.at.now) c.self.view_is
    (done_is _ _ _ (full_is c.self.inside.tree c.self.inside.blocks c.self.invariant c.args.at.now none _ (more_is _ _ (sym c.free.ensures.value) c.if-free-eq0.false))
    (mkdir_held c.self.inside.tree c.self.inside.blocks c.self.invariant c.args.at.now none c.mkdir.ensures c.reserve.ensures))

pub returns-in-Some : goal.returns-in-Some
returns-in-Some c =
    subst (λ s. (Err c.vol_fault.result, s) ≡ mkdir_step s c.args.at.now) c.self.view_is
    (refused_is _ _ _ c.vol_fault.result
    (ap (or_full (volume_of c.self.inside.tree c.self.inside.blocks)) (making_seen c.self.inside.tree c.self.inside.blocks c.args.at.now ∙ ap (option_map vol_fault) (sym c.making_fault.ensures ∙ c.in-Some.is))
    ∙ ap Some (sym c.vol_fault.ensures)))

pub returns-then-free-eq0 : goal.returns-then-free-eq0
returns-then-free-eq0 c =
    subst (λ s. (Err fault.NoSpace, s) ≡ mkdir_step s c.args.at.now) c.self.view_is
    (refused_is _ _ _ fault.NoSpace
    (full_is c.self.inside.tree c.self.inside.blocks c.self.invariant c.args.at.now (sym c.making_fault.ensures ∙ c.in_default.is) _ (zero_is _ _ (sym c.free.ensures.value) c.if-free-eq0.true)))
