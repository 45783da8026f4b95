use Rattle.std.proofs.Common.{◌≡◌, Err, not, is_some, sym, ap, subst, ◌∙◌}
use Rattle.osal_volume.specs.declared.fault.VolFault.TheVariants as fault
use Rattle.osal_volume.specs.Renames.{rename_step}
use Rattle.osal_volume.specs.Whole.{IsWhole, volume_of}
use Rattle.osal_volume.proofs.Held.{held_whole}
use Rattle.osal_volume.proofs.Calls.{done_is, refused_is}
use Rattle.osal_volume.proofs.Renames.{rename_held, rename_none, rename_some, rename_kept, rename_missing}
use Rattle.osal_volume.proofs.volume.Volume.rename.Goals.{in-Ok, in-Err}
use Rattle.osal_volume.proofs.volume.Volume.rename.Goals as goal

pub returns-then-is_none : goal.returns-then-is_none
returns-then-is_none c =
    subst (λ s. (Err fault.NotFound, s) ≡ rename_step s c.args.from.now c.args.to.now) c.self.view_is
    (refused_is _ _ _ fault.NotFound
    (rename_missing c.self.inside.tree c.self.inside.blocks c.args.from.now c.args.to.now (ap is_some (sym c.kind.ensures.value) ∙ c.is_none.ensures ∙ ap not c.if-is_none.true)))

pub invariant_of-self : goal.invariant_of-self
invariant_of-self c =
    elim c.match-rename.branch [
      | in-Ok w ↦ held_whole (rename_held c.self.inside.tree c.self.inside.blocks c.args.from.now c.args.to.now c.kind.ensures.tree c.self.invariant w.in-Ok.ensures)
      | in-Err w ↦
          subst (λ n. IsWhole n c.self.inside.blocks)
          (sym (rename_kept c.self.inside.tree c.self.inside.blocks c.args.from.now c.args.to.now w.in-Err.fault w.in-Err.ensures))
          c.self.invariant
    ]

pub returns : goal.returns
returns c =
    subst (λ s. (c.match-rename.result, volume_of c.rename.new.self c.self.inside.blocks) ≡ rename_step s c.args.from.now c.args.to.now) c.self.view_is
    (elim c.match-rename.branch [
      | in-Ok w ↦
          (λ i. (w.result-is i, volume_of c.rename.new.self c.self.inside.blocks))
          ∙ done_is _ _ _ (rename_none c.self.inside.tree c.self.inside.blocks c.args.from.now c.args.to.now w.in-Ok.ensures)
          (rename_held c.self.inside.tree c.self.inside.blocks c.args.from.now c.args.to.now c.kind.ensures.tree c.self.invariant w.in-Ok.ensures)
      | in-Err w ↦
          (λ i. (w.result-is i, volume_of (rename_kept c.self.inside.tree c.self.inside.blocks c.args.from.now c.args.to.now w.in-Err.fault w.in-Err.ensures i) c.self.inside.blocks))
          ∙ (λ i. (Err (w.vol_fault.ensures i), volume_of c.self.inside.tree c.self.inside.blocks))
          ∙ refused_is _ _ _ _ (rename_some c.self.inside.tree c.self.inside.blocks c.args.from.now c.args.to.now w.in-Err.fault w.in-Err.ensures)
    ])
