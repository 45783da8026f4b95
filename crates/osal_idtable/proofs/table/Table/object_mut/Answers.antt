use Rattle.std.proofs.Common.{is_some, refl, sym, ap, ◌∙◌}
use Rattle.osal_idtable.specs.Table.{active_at, with_object}
use Rattle.osal_idtable.proofs.Seen.{active_seen}
use Rattle.osal_idtable.proofs.Steps.{put_same, put_sound}
use Rattle.osal_idtable.proofs.table.Table.object_mut.Goals as goal

pub object_mut-requires : goal.object_mut-requires
object_mut-requires g c =
    sym (ap is_some (active_seen _ c.self.invariant c.args.id)) ∙ ap (λ t. is_some (active_at t c.args.id)) c.self.view_is
    ∙ c.requires

pub invariant_of-self-lent : goal.invariant_of-self-lent
invariant_of-self-lent g c w = put_sound _ c.self.invariant c.args.id w

pub returns : goal.returns
returns g c = (
  (refl, λ w. put_same _ c.self.invariant c.args.id w ∙ ap (λ t. with_object t c.args.id w) c.self.view_is),
  record { lends = tt; value = rw (← c.self.view_is, active_seen _ c.self.invariant) c.object_mut.ensures.value },
)
