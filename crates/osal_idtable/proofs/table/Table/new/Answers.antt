use Rattle.std.proofs.Common.{ap, ◌∙◌}
use Rattle.osal_idtable.specs.Sound.{table_of}
use Rattle.osal_idtable.proofs.Steps.{sound_as, opening_same, opening_sound}
use Rattle.osal_idtable.proofs.table.Table.new.Goals as goal

pub invariant_of-result : goal.invariant_of-result
invariant_of-result g c = sound_as c.in_ok-slots.ensures (opening_sound _ _ c.args.capacity c.requires.0)

pub returns : goal.returns
returns g c = ap table_of c.in_ok-slots.ensures ∙ opening_same _ _ c.args.capacity
