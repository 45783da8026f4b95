use Rattle.std.proofs.Common.{◌≡◌, Err, Ok, subst, ◌∙◌}
use Rattle.osal_volume.specs.Steps.{rmdir_step}
use Rattle.osal_volume.specs.Whole.{volume_of}
use Rattle.osal_volume.proofs.Held.{held_whole}
use Rattle.osal_volume.proofs.Calls.{rmdir_block, rmdir_held, rmdir_none, rmdir_some, rmdir_kept, done_is, refused_is}
use Rattle.osal_volume.proofs.volume.Volume.rmdir.Goals as goal

pub unreserve-requires : goal.unreserve-requires
unreserve-requires c = rmdir_block c.self.inside.tree c.self.inside.blocks c.args.at.now c.self.invariant c.rmdir.new.self c.in-Ok.ensures

pub invariant_of-self-in-Ok : goal.invariant_of-self-in-Ok
invariant_of-self-in-Ok c =
    held_whole (rmdir_held c.self.inside.tree c.self.inside.blocks c.args.at.now c.self.invariant c.rmdir.new.self _ c.in-Ok.ensures c.unreserve.ensures)

pub returns-in-Err : goal.returns-in-Err
returns-in-Err c =
    subst (λ s. (Err c.vol_fault.result, volume_of c.rmdir.new.self c.self.inside.blocks) ≡ rmdir_step s c.args.at.now) c.self.view_is
    ((λ i. (Err (c.vol_fault.ensures i), volume_of (rmdir_kept c.self.inside.tree c.self.inside.blocks c.args.at.now c.self.invariant c.rmdir.new.self c.in-Err.fault c.in-Err.ensures i) c.self.inside.blocks))
    ∙ refused_is _ _ _ _ (rmdir_some c.self.inside.tree c.self.inside.blocks c.args.at.now c.self.invariant c.rmdir.new.self c.in-Err.fault c.in-Err.ensures))

pub returns-in-Ok : goal.returns-in-Ok
returns-in-Ok c =
    subst (λ s. (Ok tt, volume_of c.rmdir.new.self c.unreserve.new.self) ≡ rmdir_step s c.args.at.now) c.self.view_is
    (done_is _ _ _ (rmdir_none c.self.inside.tree c.self.inside.blocks c.args.at.now c.self.invariant c.rmdir.new.self c.in-Ok.ensures)
    (rmdir_held c.self.inside.tree c.self.inside.blocks c.args.at.now c.self.invariant c.rmdir.new.self _ c.in-Ok.ensures c.unreserve.ensures))
