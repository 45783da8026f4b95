use Rattle.std.proofs.Common.{◌≡◌, Err, Ok, take, sym, subst, ◌∙◌, arith}
use Rattle.osal_volume.specs.declared.fault.VolFault.TheVariants as fault
use Rattle.osal_blocks.specs.Blocks.{bytes_of, overwritten}
use Rattle.osal_volume.specs.Volume.{Bytes, with_node}
use Rattle.osal_volume.specs.Steps.{write_step}
use Rattle.osal_volume.specs.Whole.{IsWhole, volume_of}
use Rattle.osal_volume.proofs.Held.{Held, held_is, held_whole}
use Rattle.osal_volume.proofs.Calls.{file_held, write_refused, write_is, put_none, put_some, zero_is, more_is}
use Rattle.osal_volume.proofs.volume.Volume.write.Goals as goal

pub returns-in-Err : goal.returns-in-Err
returns-in-Err c =
    subst (λ s. (Err c.in-Err.fault, s) ≡ write_step s c.args.at.now c.args.place c.args.payload.now) c.self.view_is
    (write_refused c.self.inside.tree c.self.inside.blocks c.args.at.now c.args.place c.args.payload.now c.in-Err.fault (sym c.in-Err.ensures.value))

pub invariant_of-self : goal.invariant_of-self
invariant_of-self c = subst (IsWhole c.self.inside.tree) (sym (c.write-count.ensures.none c.if-count-eq0.true)) c.self.invariant

pub returns-then-count-eq0 : goal.returns-then-count-eq0
returns-then-count-eq0 c =
    subst (λ s. (Err fault.NoSpace, volume_of c.self.inside.tree c.write-count.new.self) ≡ write_step s c.args.at.now c.args.place c.args.payload.now) c.self.view_is
    ((λ i. (Err fault.NoSpace, volume_of c.self.inside.tree (c.write-count.ensures.none c.if-count-eq0.true i)))
    ∙ put_none (volume_of c.self.inside.tree c.self.inside.blocks) c.args.at.now (bytes_of c.self.inside.blocks c.in-Ok.number) c.args.place c.args.payload.now c.write-count.result (zero_is _ _ (λ i. c.write-count.result) c.if-count-eq0.true)
    ∙ write_is c.self.inside.tree c.self.inside.blocks c.self.invariant c.args.at.now c.in-Ok.number c.args.place c.write-count.result c.args.payload.now (sym c.in-Ok.ensures.value) c.write-count.ensures.count)

pub invariant_of-self-in-Ok : goal.invariant_of-self-in-Ok
invariant_of-self-in-Ok c =
    let more = c.if-count-eq0.false in
    let bytes = overwritten (bytes_of c.self.inside.blocks c.in-Ok.number) c.args.place (take c.write-count.result c.args.payload.now) in
    let held = file_held c.self.inside.tree c.self.inside.blocks c.args.at.now c.self.invariant c.in-Ok.ensures.tree c.in-Ok.number c.in-Ok.ensures.few (sym c.in-Ok.ensures.value) bytes in
    held_whole (subst (λ blocks. Held c.self.inside.tree blocks (with_node (volume_of c.self.inside.tree c.self.inside.blocks) c.args.at.now (Bytes bytes))) (sym (c.write-count.ensures.bytes (omega arith))) held)

pub returns-else-count-eq0 : goal.returns-else-count-eq0
returns-else-count-eq0 c =
    let more = c.if-count-eq0.false in
    let bytes = overwritten (bytes_of c.self.inside.blocks c.in-Ok.number) c.args.place (take c.write-count.result c.args.payload.now) in
    let held = file_held c.self.inside.tree c.self.inside.blocks c.args.at.now c.self.invariant c.in-Ok.ensures.tree c.in-Ok.number c.in-Ok.ensures.few (sym c.in-Ok.ensures.value) bytes in
    let left = subst (λ blocks. Held c.self.inside.tree blocks (with_node (volume_of c.self.inside.tree c.self.inside.blocks) c.args.at.now (Bytes bytes))) (sym (c.write-count.ensures.bytes (omega arith))) held in
    subst (λ s. (Ok c.write-count.result, volume_of c.self.inside.tree c.write-count.new.self) ≡ write_step s c.args.at.now c.args.place c.args.payload.now) c.self.view_is
    ((λ i. (Ok c.write-count.result, held_is left i))
    ∙ put_some (volume_of c.self.inside.tree c.self.inside.blocks) c.args.at.now (bytes_of c.self.inside.blocks c.in-Ok.number) c.args.place c.args.payload.now c.write-count.result (more_is _ _ (λ i. c.write-count.result) more)
    ∙ write_is c.self.inside.tree c.self.inside.blocks c.self.invariant c.args.at.now c.in-Ok.number c.args.place c.write-count.result c.args.payload.now (sym c.in-Ok.ensures.value) c.write-count.ensures.count)
