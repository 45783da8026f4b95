use Rattle.std.proofs.Common.{ap, ◌∙◌}
use Rattle.osal_idtable.specs.Sound.{table_of}
use Rattle.osal_idtable.specs.Steps.{reserve_step}
use Rattle.osal_idtable.proofs.Steps.{seen, sound_after, gives_as, reserve_same, reserve_sound, reserve_gives}
use Rattle.osal_idtable.proofs.table.Table.reserve.Goals as goal

pub invariant_of-self : goal.invariant_of-self
invariant_of-self g c = sound_after c.reserve.ensures (reserve_sound _ c.self.invariant c.args.name)

pub returns-clause-step : goal.returns-clause-step
returns-clause-step g c =
    ap seen c.reserve.ensures ∙ reserve_same _ c.self.invariant c.args.name
    ∙ ap (λ t. reserve_step t c.args.name) c.self.view_is

pub returns-clause-reserved : goal.returns-clause-reserved
returns-clause-reserved g c =
    let step = ap seen c.reserve.ensures ∙ reserve_same _ c.self.invariant c.args.name in
    gives_as step (reserve_gives (table_of c.self.inside.slots) c.args.name)
