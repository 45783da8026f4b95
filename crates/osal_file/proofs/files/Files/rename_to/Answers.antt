use Rattle.std.proofs.Common.{◌≡◌, rules, sym, ◌∙◌}
use Rattle.osal_volume.specs.Renames.{rename_step}
use Rattle.osal_file.specs.Files.{in_volume, is_open_within}
use Rattle.osal_file.specs.Nodes.{unless_open}
use Rattle.osal_file.proofs.Renames.{one_system}
use Rattle.osal_file.proofs.files.Files.rename_to.Goals as goal

pub returns : goal.returns
returns c =
    let from = c.names.ensures.value in
    let to = c.names-2.ensures.value in
    let one : c.args.other ≡ c.args.id = search rules in
    c.rename_at.ensures
    ∙ (λ i. in_volume c.args.self.now c.args.id (λ volume. unless_open c.args.self.now (is_open_within c.args.self.now c.args.id (from i)) c.args.id (rename_step volume (from i) (to i))))
    ∙ sym (one_system c.args.self.now c.args.id c.args.other c.args.from.now c.args.to.now (is_open_within c.args.self.now c.args.id c.args.from.now) one)
