use Rattle.std.proofs.Common.{ap, sym, ◌∙◌}
use Rattle.osal_volume.specs.Copies.{copy_step, copy_from_step}
use Rattle.osal_file.specs.Files.{FilesState, slot_among, in_volume, is_file_open}
use Rattle.osal_file.specs.Nodes.{unless_open}
use Rattle.osal_file.proofs.Copies.{one_volume, two_volumes}
use Rattle.osal_file.proofs.files.Files.cp_to.Goals as goal

pub returns-then-slot_among : goal.returns-then-slot_among
returns-then-slot_among c =
    let from = c.names.ensures.value in
    let to = c.names-then-slot_among.ensures.value in
    let seen = ap (λ (f : FilesState). f.volumes) c.self.view_is in
    let slot = c.slot_among.ensures.value ∙ ap (λ v. slot_among v c.args.other) (c.deref.ensures.value ∙ seen) in
    let home = c.slot_among-2.ensures.value ∙ ap (λ v. slot_among v c.args.id) (c.deref-2.ensures.value ∙ seen) in
    c.cp_within.ensures
    ∙ (λ i. in_volume c.args.self.now c.args.other (λ volume. unless_open c.args.self.now (is_file_open c.args.self.now c.args.other (to i)) c.args.other (copy_step volume (from i) (to i))))
    ∙ sym (one_volume c.args.self.now c.args.id c.args.other c.args.from.now c.args.to.now (is_file_open c.args.self.now c.args.other c.args.to.now) (sym slot ∙ c.if-slot_among.true ∙ home))

pub returns-else-slot_among : goal.returns-else-slot_among
returns-else-slot_among c =
    let from = c.names-else-slot_among.ensures.value in
    let to = c.names-else-slot_among-2.ensures.value in
    let seen = ap (λ (f : FilesState). f.volumes) c.self.view_is in
    let slot = c.slot_among.ensures.value ∙ ap (λ v. slot_among v c.args.other) (c.deref.ensures.value ∙ seen) in
    let home = c.slot_among-2.ensures.value ∙ ap (λ v. slot_among v c.args.id) (c.deref-2.ensures.value ∙ seen) in
    c.cp_across.ensures
    ∙ (λ i. in_volume c.args.self.now c.args.id (λ volume. in_volume c.args.self.now c.args.other (λ there. unless_open c.args.self.now (is_file_open c.args.self.now c.args.other (to i)) c.args.other (copy_from_step there volume (from i) (to i)))))
    ∙ sym (two_volumes c.args.self.now c.args.id c.args.other c.args.from.now c.args.to.now (is_file_open c.args.self.now c.args.other c.args.to.now) (λ one. c.if-slot_among.false (slot ∙ one ∙ sym home)))
