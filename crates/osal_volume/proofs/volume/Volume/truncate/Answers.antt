use Rattle.std.proofs.Common.{◌≡◌, Err, Ok, [], sym, ap, subst}
use Rattle.osal_volume.specs.Volume.{Bytes, with_node}
use Rattle.osal_volume.specs.Steps.{file_fault, truncate_step}
use Rattle.osal_volume.specs.Whole.{volume_of}
use Rattle.osal_volume.proofs.Held.{Held, held_whole}
use Rattle.osal_volume.proofs.Calls.{refused, allowed, file_held, done_is, refused_is}
use Rattle.osal_volume.proofs.volume.Volume.truncate.Goals as goal

pub invariant_of-self : goal.invariant_of-self
invariant_of-self c =
    let held = file_held c.self.inside.tree c.self.inside.blocks c.args.at.now c.self.invariant c.in-Ok.ensures.tree c.in-Ok.number c.in-Ok.ensures.few (sym c.in-Ok.ensures.value) [] in
    held_whole (subst (λ blocks. Held c.self.inside.tree blocks (with_node (volume_of c.self.inside.tree c.self.inside.blocks) c.args.at.now (Bytes []))) (sym c.truncate.ensures.bytes) held)

pub returns-in-Err : goal.returns-in-Err
returns-in-Err c =
    subst (λ s. (Err c.in-Err.fault, s) ≡ truncate_step s c.args.at.now) c.self.view_is
    (refused_is _ _ _ c.in-Err.fault (refused c.self.inside.tree c.self.inside.blocks c.args.at.now c.in-Err.fault (sym c.in-Err.ensures.value)))

pub returns-in-Ok : goal.returns-in-Ok
returns-in-Ok c =
    let found = sym c.in-Ok.ensures.value in
    let held = file_held c.self.inside.tree c.self.inside.blocks c.args.at.now c.self.invariant c.in-Ok.ensures.tree c.in-Ok.number c.in-Ok.ensures.few found [] in
    let left = subst (λ blocks. Held c.self.inside.tree blocks (with_node (volume_of c.self.inside.tree c.self.inside.blocks) c.args.at.now (Bytes []))) (sym c.truncate.ensures.bytes) held in
    subst (λ s. (Ok tt, volume_of c.self.inside.tree c.truncate.new.self) ≡ truncate_step s c.args.at.now) c.self.view_is
    (done_is _ _ _ (ap file_fault (allowed c.self.inside.tree c.self.inside.blocks c.args.at.now c.in-Ok.number found)) left)
