use Rattle.std.proofs.Common.{ap, ◌∙◌}
use Rattle.osal_idtable.specs.Sound.{table_of}
use Rattle.osal_idtable.specs.Steps.{claim_step}
use Rattle.osal_idtable.proofs.Steps.{seen, sound_after}
use Rattle.osal_idtable.proofs.Holding.{claim_same, claim_sound, claim_gives, claim_as}
use Rattle.osal_idtable.proofs.table.Table.claim.Goals as goal

pub invariant_of-self : goal.invariant_of-self
invariant_of-self g c = sound_after c.claim.ensures (claim_sound _ c.self.invariant c.args.id)

pub returns-clause-step : goal.returns-clause-step
returns-clause-step g c =
    ap seen c.claim.ensures ∙ claim_same _ c.self.invariant c.args.id ∙ ap (λ t. claim_step t c.args.id) c.self.view_is

pub returns-clause-reserved : goal.returns-clause-reserved
returns-clause-reserved g c =
    let step = ap seen c.claim.ensures ∙ claim_same _ c.self.invariant c.args.id in
    claim_as step (claim_gives (table_of c.self.inside.slots) c.args.id)
