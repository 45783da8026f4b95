use Rattle.std.proofs.Common.{◌≡◌, sym, subst}
use Rattle.std.specs.Ordering.{eq_by_cmp}
use Rattle.osal_tree.specs.Paths.{path_cmp}
use Rattle.osal_volume.specs.Volume.{content_at}
use Rattle.osal_volume.specs.Copies.{placing_fault}
use Rattle.osal_volume.proofs.Copies.{told_fault}
use Rattle.osal_volume.proofs.volume.Volume.copy_fault.Goals as goal

pub returns : goal.returns
returns c =
    let seen = subst (λ s. c.placing_fault.result ≡ placing_fault s c.args.to.now c.is_one_file-same.result (content_at s c.args.from.now)) (sym c.self.view_is) (c.placing_fault.ensures (content_at c.args.self.now c.args.from.now) c.kind.ensures) in
    subst (λ s. c.placing_fault.result ≡ placing_fault s c.args.to.now (eq_by_cmp path_cmp c.args.from.now c.args.to.now) (content_at s c.args.from.now)) c.self.view_is
    (sym (told_fault c.self.inside.tree c.self.inside.blocks c.args.from.now c.args.to.now c.is_one_file-same.ensures.tree c.is_one_file-same.result c.is_one_file-same.ensures.value c.placing_fault.result (sym seen)))
