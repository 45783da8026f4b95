use Rattle.std.proofs.Common.{◌≡◌, false, Err, Ok, sym, ap, subst, ◌∙◌}
use Rattle.osal_blocks.specs.Blocks.{bytes_of}
use Rattle.osal_volume.specs.Volume.{Bytes, content_at, with_node}
use Rattle.osal_volume.specs.Copies.{placing_fault, copy_from_step}
use Rattle.osal_volume.specs.Whole.{volume_of}
use Rattle.osal_volume.proofs.Held.{Held, held_whole}
use Rattle.osal_volume.proofs.Calls.{allowed}
use Rattle.osal_volume.proofs.Copies.{placeable, placed_is, placed_not, room_for, opened, filled, has_room, target_there, source_there}
use Rattle.osal_volume.proofs.volume.Volume.copy_from.Goals as goal

pub returns-in-Some : goal.returns-in-Some
returns-in-Some c =
    let seen = subst (λ s. c.placing_fault.result ≡ placing_fault s c.args.to.now false (content_at c.args.other.now c.args.from.now)) (sym c.self.view_is) (c.placing_fault.ensures (content_at c.args.other.now c.args.from.now) c.kind.ensures) in
    subst (λ s. (Err c.in-Some.fault, s) ≡ copy_from_step s c.args.other.now c.args.from.now c.args.to.now) c.self.view_is
    (placed_not (volume_of c.self.inside.tree c.self.inside.blocks) c.args.to.now false (content_at c.args.other.now c.args.from.now) c.in-Some.fault (sym seen ∙ c.in-Some.is))

pub returns-in_err-source : goal.returns-in_err-source
returns-in_err-source c =
    let seen = subst (λ s. c.placing_fault.result ≡ placing_fault s c.args.to.now false (content_at c.args.other.now c.args.from.now)) (sym c.self.view_is) (c.placing_fault.ensures (content_at c.args.other.now c.args.from.now) c.kind.ensures) in
    let can = placeable (volume_of c.self.inside.tree c.self.inside.blocks) c.args.to.now false (content_at c.args.other.now c.args.from.now) (sym seen ∙ c.in_default.is) in
    absurd (source_there c.other.inside.tree c.other.inside.blocks c.args.from.now (ap (λ s. content_at s c.args.from.now) (sym c.other.view_is)) can c.in_err-source.field-0.0 (sym c.file_number.ensures.value ∙ c.in_err-source.was))

pub invariant_of-self : goal.invariant_of-self
invariant_of-self c =
    let seen = subst (λ s. c.placing_fault.result ≡ placing_fault s c.args.to.now false (content_at c.args.other.now c.args.from.now)) (sym c.self.view_is) (c.placing_fault.ensures (content_at c.args.other.now c.args.from.now) c.kind.ensures) in
    let can = placeable (volume_of c.self.inside.tree c.self.inside.blocks) c.args.to.now false (content_at c.args.other.now c.args.from.now) (sym seen ∙ c.in_default.is) in
    let open_there = opened c.self.inside.tree c.self.inside.blocks c.args.to.now false (content_at c.args.other.now c.args.from.now) c.self.invariant can c.create.result c.create.ensures.made c.create.ensures.refused in
    held_whole open_there.held

pub returns-in_err-target : goal.returns-in_err-target
returns-in_err-target c =
    let seen = subst (λ s. c.placing_fault.result ≡ placing_fault s c.args.to.now false (content_at c.args.other.now c.args.from.now)) (sym c.self.view_is) (c.placing_fault.ensures (content_at c.args.other.now c.args.from.now) c.kind.ensures) in
    let can = placeable (volume_of c.self.inside.tree c.self.inside.blocks) c.args.to.now false (content_at c.args.other.now c.args.from.now) (sym seen ∙ c.in_default.is) in
    let open_there = opened c.self.inside.tree c.self.inside.blocks c.args.to.now false (content_at c.args.other.now c.args.from.now) c.self.invariant can c.create.result c.create.ensures.made c.create.ensures.refused in
    absurd (target_there c.self.inside.tree c.self.inside.blocks c.args.to.now can open_there c.in_err-target.field-0.0 (sym c.file_number-2.ensures.value ∙ c.in_err-target.was))

pub copy_from-requires-clause-room : goal.copy_from-requires-clause-room
copy_from-requires-clause-room c =
    let seen = subst (λ s. c.placing_fault.result ≡ placing_fault s c.args.to.now false (content_at c.args.other.now c.args.from.now)) (sym c.self.view_is) (c.placing_fault.ensures (content_at c.args.other.now c.args.from.now) c.kind.ensures) in
    let can = placeable (volume_of c.self.inside.tree c.self.inside.blocks) c.args.to.now false (content_at c.args.other.now c.args.from.now) (sym seen ∙ c.in_default.is) in
    let open_there = opened c.self.inside.tree c.self.inside.blocks c.args.to.now false (content_at c.args.other.now c.args.from.now) c.self.invariant can c.create.result c.create.ensures.made c.create.ensures.refused in
    let found = sym c.file_number.ensures.value ∙ c.in_ok-source.was in
    let target = sym c.file_number-2.ensures.value ∙ c.in_ok-target.was in
    has_room c.self.inside.tree c.self.inside.blocks c.args.to.now c.create.new.self open_there c.file_number-2.ensures.tree c.in_ok-target.target target (bytes_of c.other.inside.blocks c.in_ok-source.source) (room_for can (bytes_of c.other.inside.blocks c.in_ok-source.source) (ap (λ s. content_at s c.args.from.now) (sym c.other.view_is) ∙ allowed c.other.inside.tree c.other.inside.blocks c.args.from.now c.in_ok-source.source found))

pub invariant_of-self-2 : goal.invariant_of-self-2
invariant_of-self-2 c =
    let seen = subst (λ s. c.placing_fault.result ≡ placing_fault s c.args.to.now false (content_at c.args.other.now c.args.from.now)) (sym c.self.view_is) (c.placing_fault.ensures (content_at c.args.other.now c.args.from.now) c.kind.ensures) in
    let can = placeable (volume_of c.self.inside.tree c.self.inside.blocks) c.args.to.now false (content_at c.args.other.now c.args.from.now) (sym seen ∙ c.in_default.is) in
    let open_there = opened c.self.inside.tree c.self.inside.blocks c.args.to.now false (content_at c.args.other.now c.args.from.now) c.self.invariant can c.create.result c.create.ensures.made c.create.ensures.refused in
    let target = sym c.file_number-2.ensures.value ∙ c.in_ok-target.was in
    held_whole (subst (λ b. Held c.create.new.self b (with_node (volume_of c.self.inside.tree c.self.inside.blocks) c.args.to.now (Bytes (bytes_of c.other.inside.blocks c.in_ok-source.source)))) (sym c.copy_from.ensures) (filled c.self.inside.tree c.self.inside.blocks c.args.to.now c.create.new.self open_there c.file_number-2.ensures.tree c.in_ok-target.target target (bytes_of c.other.inside.blocks c.in_ok-source.source) c.in_ok-target.ensures.few))

pub returns : goal.returns
returns c =
    let seen = subst (λ s. c.placing_fault.result ≡ placing_fault s c.args.to.now false (content_at c.args.other.now c.args.from.now)) (sym c.self.view_is) (c.placing_fault.ensures (content_at c.args.other.now c.args.from.now) c.kind.ensures) in
    let can = placeable (volume_of c.self.inside.tree c.self.inside.blocks) c.args.to.now false (content_at c.args.other.now c.args.from.now) (sym seen ∙ c.in_default.is) in
    let open_there = opened c.self.inside.tree c.self.inside.blocks c.args.to.now false (content_at c.args.other.now c.args.from.now) c.self.invariant can c.create.result c.create.ensures.made c.create.ensures.refused in
    let found = sym c.file_number.ensures.value ∙ c.in_ok-source.was in
    let target = sym c.file_number-2.ensures.value ∙ c.in_ok-target.was in
    let held = subst (λ b. Held c.create.new.self b (with_node (volume_of c.self.inside.tree c.self.inside.blocks) c.args.to.now (Bytes (bytes_of c.other.inside.blocks c.in_ok-source.source)))) (sym c.copy_from.ensures) (filled c.self.inside.tree c.self.inside.blocks c.args.to.now c.create.new.self open_there c.file_number-2.ensures.tree c.in_ok-target.target target (bytes_of c.other.inside.blocks c.in_ok-source.source) c.in_ok-target.ensures.few) in
    subst (λ s. (Ok tt, volume_of c.create.new.self c.copy_from.new.self) ≡ copy_from_step s c.args.other.now c.args.from.now c.args.to.now) c.self.view_is
    (placed_is (volume_of c.self.inside.tree c.self.inside.blocks) c.args.to.now false (content_at c.args.other.now c.args.from.now) (bytes_of c.other.inside.blocks c.in_ok-source.source) (sym seen ∙ c.in_default.is) (ap (λ s. content_at s c.args.from.now) (sym c.other.view_is) ∙ allowed c.other.inside.tree c.other.inside.blocks c.args.from.now c.in_ok-source.source found) held)
