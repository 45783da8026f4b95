use Rattle.std.proofs.Common.{◌≡◌, None, Some, Err, Ok, refl, sym, subst, ◌∙◌}
use Rattle.std.specs.Ordering.{eq_by_cmp}
use Rattle.osal_tree.specs.Paths.{path_cmp}
use Rattle.osal_blocks.specs.Blocks.{bytes_of}
use Rattle.osal_volume.specs.Volume.{Bytes, content_at, with_node}
use Rattle.osal_volume.specs.Copies.{placing_fault, copy_step}
use Rattle.osal_volume.specs.Whole.{volume_of}
use Rattle.osal_volume.proofs.Held.{Held, held_whole}
use Rattle.osal_volume.proofs.Calls.{allowed}
use Rattle.osal_volume.proofs.Copies.{placeable, placed_is, placed_not, room_for, opened, filled, has_room, two_numbers, target_there, source_there, told_fault}
use Rattle.osal_volume.proofs.volume.Volume.copy.Goals as goal

pub returns-in-Some : goal.returns-in-Some
returns-in-Some c =
    let seen = subst (λ s. c.placing_fault.result ≡ placing_fault s c.args.to.now c.is_one_file-same.result (content_at s c.args.from.now)) (sym c.self.view_is) (c.placing_fault.ensures (content_at c.args.self.now c.args.from.now) c.kind.ensures) in
    subst (λ s. (Err c.in-Some.fault, s) ≡ copy_step s c.args.from.now c.args.to.now) c.self.view_is
    (placed_not (volume_of c.self.inside.tree c.self.inside.blocks) c.args.to.now (eq_by_cmp path_cmp c.args.from.now c.args.to.now) (content_at (volume_of c.self.inside.tree c.self.inside.blocks) c.args.from.now) c.in-Some.fault (told_fault c.self.inside.tree c.self.inside.blocks c.args.from.now c.args.to.now c.is_one_file-same.ensures.tree c.is_one_file-same.result c.is_one_file-same.ensures.value (Some c.in-Some.fault) (sym seen ∙ c.in-Some.is)))

pub returns-in_err-source : goal.returns-in_err-source
returns-in_err-source c =
    let seen = subst (λ s. c.placing_fault.result ≡ placing_fault s c.args.to.now c.is_one_file-same.result (content_at s c.args.from.now)) (sym c.self.view_is) (c.placing_fault.ensures (content_at c.args.self.now c.args.from.now) c.kind.ensures) in
    let can = placeable (volume_of c.self.inside.tree c.self.inside.blocks) c.args.to.now c.is_one_file-same.result (content_at (volume_of c.self.inside.tree c.self.inside.blocks) c.args.from.now) (sym seen ∙ c.in_default.is) in
    absurd (source_there c.self.inside.tree c.self.inside.blocks c.args.from.now (refl) can c.in_err-source.field-0.0 (sym c.file_number.ensures.value ∙ c.in_err-source.was))

pub invariant_of-self : goal.invariant_of-self
invariant_of-self c =
    let seen = subst (λ s. c.placing_fault.result ≡ placing_fault s c.args.to.now c.is_one_file-same.result (content_at s c.args.from.now)) (sym c.self.view_is) (c.placing_fault.ensures (content_at c.args.self.now c.args.from.now) c.kind.ensures) in
    let can = placeable (volume_of c.self.inside.tree c.self.inside.blocks) c.args.to.now c.is_one_file-same.result (content_at (volume_of c.self.inside.tree c.self.inside.blocks) c.args.from.now) (sym seen ∙ c.in_default.is) in
    let open_there = opened c.self.inside.tree c.self.inside.blocks c.args.to.now c.is_one_file-same.result (content_at (volume_of c.self.inside.tree c.self.inside.blocks) c.args.from.now) c.self.invariant can c.create.result c.create.ensures.made c.create.ensures.refused in
    held_whole open_there.held

pub returns-in_err-target : goal.returns-in_err-target
returns-in_err-target c =
    let seen = subst (λ s. c.placing_fault.result ≡ placing_fault s c.args.to.now c.is_one_file-same.result (content_at s c.args.from.now)) (sym c.self.view_is) (c.placing_fault.ensures (content_at c.args.self.now c.args.from.now) c.kind.ensures) in
    let can = placeable (volume_of c.self.inside.tree c.self.inside.blocks) c.args.to.now c.is_one_file-same.result (content_at (volume_of c.self.inside.tree c.self.inside.blocks) c.args.from.now) (sym seen ∙ c.in_default.is) in
    let open_there = opened c.self.inside.tree c.self.inside.blocks c.args.to.now c.is_one_file-same.result (content_at (volume_of c.self.inside.tree c.self.inside.blocks) c.args.from.now) c.self.invariant can c.create.result c.create.ensures.made c.create.ensures.refused in
    absurd (target_there c.self.inside.tree c.self.inside.blocks c.args.to.now can open_there c.in_err-target.field-0.0 (sym c.file_number-2.ensures.value ∙ c.in_err-target.was))

pub copy-requires-clause-two : goal.copy-requires-clause-two
copy-requires-clause-two c = λ one.
    let seen = subst (λ s. c.placing_fault.result ≡ placing_fault s c.args.to.now c.is_one_file-same.result (content_at s c.args.from.now)) (sym c.self.view_is) (c.placing_fault.ensures (content_at c.args.self.now c.args.from.now) c.kind.ensures) in
    let can = placeable (volume_of c.self.inside.tree c.self.inside.blocks) c.args.to.now c.is_one_file-same.result (content_at (volume_of c.self.inside.tree c.self.inside.blocks) c.args.from.now) (sym seen ∙ c.in_default.is) in
    let open_there = opened c.self.inside.tree c.self.inside.blocks c.args.to.now c.is_one_file-same.result (content_at (volume_of c.self.inside.tree c.self.inside.blocks) c.args.from.now) c.self.invariant can c.create.result c.create.ensures.made c.create.ensures.refused in
    let found = sym c.file_number.ensures.value ∙ c.in_ok-source.was in
    let target = sym c.file_number-2.ensures.value ∙ c.in_ok-target.was in
    two_numbers c.self.inside.tree c.self.inside.blocks c.args.to.now c.create.new.self open_there c.file_number-2.ensures.tree c.in_ok-target.target target (bytes_of c.self.inside.blocks c.in_ok-source.source) c.args.from.now c.in_ok-source.source found (sym c.is_one_file-same.ensures.value ∙ can.apart) one

pub copy-requires-clause-room : goal.copy-requires-clause-room
copy-requires-clause-room c =
    let seen = subst (λ s. c.placing_fault.result ≡ placing_fault s c.args.to.now c.is_one_file-same.result (content_at s c.args.from.now)) (sym c.self.view_is) (c.placing_fault.ensures (content_at c.args.self.now c.args.from.now) c.kind.ensures) in
    let can = placeable (volume_of c.self.inside.tree c.self.inside.blocks) c.args.to.now c.is_one_file-same.result (content_at (volume_of c.self.inside.tree c.self.inside.blocks) c.args.from.now) (sym seen ∙ c.in_default.is) in
    let open_there = opened c.self.inside.tree c.self.inside.blocks c.args.to.now c.is_one_file-same.result (content_at (volume_of c.self.inside.tree c.self.inside.blocks) c.args.from.now) c.self.invariant can c.create.result c.create.ensures.made c.create.ensures.refused in
    let found = sym c.file_number.ensures.value ∙ c.in_ok-source.was in
    let target = sym c.file_number-2.ensures.value ∙ c.in_ok-target.was in
    has_room c.self.inside.tree c.self.inside.blocks c.args.to.now c.create.new.self open_there c.file_number-2.ensures.tree c.in_ok-target.target target (bytes_of c.self.inside.blocks c.in_ok-source.source) (room_for can (bytes_of c.self.inside.blocks c.in_ok-source.source) (allowed c.self.inside.tree c.self.inside.blocks c.args.from.now c.in_ok-source.source found))

pub invariant_of-self-2 : goal.invariant_of-self-2
invariant_of-self-2 c =
    let seen = subst (λ s. c.placing_fault.result ≡ placing_fault s c.args.to.now c.is_one_file-same.result (content_at s c.args.from.now)) (sym c.self.view_is) (c.placing_fault.ensures (content_at c.args.self.now c.args.from.now) c.kind.ensures) in
    let can = placeable (volume_of c.self.inside.tree c.self.inside.blocks) c.args.to.now c.is_one_file-same.result (content_at (volume_of c.self.inside.tree c.self.inside.blocks) c.args.from.now) (sym seen ∙ c.in_default.is) in
    let open_there = opened c.self.inside.tree c.self.inside.blocks c.args.to.now c.is_one_file-same.result (content_at (volume_of c.self.inside.tree c.self.inside.blocks) c.args.from.now) c.self.invariant can c.create.result c.create.ensures.made c.create.ensures.refused in
    let target = sym c.file_number-2.ensures.value ∙ c.in_ok-target.was in
    held_whole (subst (λ b. Held c.create.new.self b (with_node (volume_of c.self.inside.tree c.self.inside.blocks) c.args.to.now (Bytes (bytes_of c.self.inside.blocks c.in_ok-source.source)))) (sym c.copy.ensures) (filled c.self.inside.tree c.self.inside.blocks c.args.to.now c.create.new.self open_there c.file_number-2.ensures.tree c.in_ok-target.target target (bytes_of c.self.inside.blocks c.in_ok-source.source) c.in_ok-target.ensures.few))

pub returns : goal.returns
returns c =
    let seen = subst (λ s. c.placing_fault.result ≡ placing_fault s c.args.to.now c.is_one_file-same.result (content_at s c.args.from.now)) (sym c.self.view_is) (c.placing_fault.ensures (content_at c.args.self.now c.args.from.now) c.kind.ensures) in
    let can = placeable (volume_of c.self.inside.tree c.self.inside.blocks) c.args.to.now c.is_one_file-same.result (content_at (volume_of c.self.inside.tree c.self.inside.blocks) c.args.from.now) (sym seen ∙ c.in_default.is) in
    let open_there = opened c.self.inside.tree c.self.inside.blocks c.args.to.now c.is_one_file-same.result (content_at (volume_of c.self.inside.tree c.self.inside.blocks) c.args.from.now) c.self.invariant can c.create.result c.create.ensures.made c.create.ensures.refused in
    let found = sym c.file_number.ensures.value ∙ c.in_ok-source.was in
    let target = sym c.file_number-2.ensures.value ∙ c.in_ok-target.was in
    let held = subst (λ b. Held c.create.new.self b (with_node (volume_of c.self.inside.tree c.self.inside.blocks) c.args.to.now (Bytes (bytes_of c.self.inside.blocks c.in_ok-source.source)))) (sym c.copy.ensures) (filled c.self.inside.tree c.self.inside.blocks c.args.to.now c.create.new.self open_there c.file_number-2.ensures.tree c.in_ok-target.target target (bytes_of c.self.inside.blocks c.in_ok-source.source) c.in_ok-target.ensures.few) in
    subst (λ s. (Ok tt, volume_of c.create.new.self c.copy.new.self) ≡ copy_step s c.args.from.now c.args.to.now) c.self.view_is
    (placed_is (volume_of c.self.inside.tree c.self.inside.blocks) c.args.to.now (eq_by_cmp path_cmp c.args.from.now c.args.to.now) (content_at (volume_of c.self.inside.tree c.self.inside.blocks) c.args.from.now) (bytes_of c.self.inside.blocks c.in_ok-source.source) (told_fault c.self.inside.tree c.self.inside.blocks c.args.from.now c.args.to.now c.is_one_file-same.ensures.tree c.is_one_file-same.result c.is_one_file-same.ensures.value None (sym seen ∙ c.in_default.is)) (allowed c.self.inside.tree c.self.inside.blocks c.args.from.now c.in_ok-source.source found) held)
