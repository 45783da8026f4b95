use Rattle.std.proofs.Common.{sym, ap, ◌∙◌}
use Rattle.std.specs.FinMap as map
use Rattle.osal_path.proofs.Mounted.{counted}
use Rattle.osal_path.proofs.mounts.MountMap.len.Goals as goal

pub returns-clause-value : goal.returns-clause-value
returns-clause-value c =
    c.len.ensures ∙ c.self.inside.mounts.ok.0 ∙ sym (counted c.self.inside.mounts.items c.self.invariant.distinct)
    ∙ ap (λ m. map.len m) c.self.view_is
