use Rattle.std.proofs.Common.{◌≡◌, Err, Ok, refl, sym, ap, subst, ◌∙◌}
use Rattle.osal_volume.specs.Volume.{content_at}
use Rattle.osal_volume.specs.Steps.{read_step}
use Rattle.osal_volume.proofs.Calls.{read_refused, allowed}
use Rattle.osal_volume.proofs.volume.Volume.read.Goals as goal

pub returns-in-Err-clause-refused : goal.returns-in-Err-clause-refused
returns-in-Err-clause-refused c = (
  subst (λ s. read_step (content_at s c.args.at.now) c.args.place c.args.n ≡ Err c.in-Err.fault) c.self.view_is
      (read_refused c.self.inside.tree c.self.inside.blocks c.args.at.now c.args.place c.args.n c.in-Err.fault (sym c.in-Err.ensures.value)),
  refl,
)

pub returns-in-Ok-clause-bytes : goal.returns-in-Ok-clause-bytes
returns-in-Ok-clause-bytes c = (
  subst (λ s. read_step (content_at s c.args.at.now) c.args.place c.args.n ≡ Ok c.read.new.room) c.self.view_is
      (ap (λ o. read_step o c.args.place c.args.n) (allowed c.self.inside.tree c.self.inside.blocks c.args.at.now c.in-Ok.number (sym c.in-Ok.ensures.value)) ∙ ap Ok (sym c.read.ensures.bytes)),
  c.read.ensures.count,
)
