use Rattle.std.proofs.Common.{is_some, sym, ap, ◌∙◌}
use Rattle.osal_idtable.specs.Table.{active_at, with_object}
use Rattle.osal_idtable.specs.Sound.{table_of}
use Rattle.osal_idtable.proofs.Seen.{active_seen}
use Rattle.osal_idtable.proofs.Steps.{sound_as, put_same, put_sound}
use Rattle.osal_idtable.proofs.table.Table.put.Goals as goal

pub put-requires : goal.put-requires
put-requires g c =
    sym (ap is_some (active_seen _ c.self.invariant c.args.id)) ∙ ap (λ t. is_some (active_at t c.args.id)) c.self.view_is
    ∙ c.requires

pub invariant_of-self : goal.invariant_of-self
invariant_of-self g c = sound_as c.put.ensures (put_sound _ c.self.invariant c.args.id c.args.object)

pub returns : goal.returns
returns g c =
    ap table_of c.put.ensures ∙ put_same _ c.self.invariant c.args.id c.args.object
    ∙ ap (λ t. with_object t c.args.id c.args.object) c.self.view_is
