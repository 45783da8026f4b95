use Rattle.std.proofs.Common.{sym, ap, ◌∙◌}
use Rattle.osal_idtable.specs.Sound.{table_of}
use Rattle.osal_idtable.specs.Steps.{is_reserved, finalize_step}
use Rattle.osal_idtable.proofs.Steps.{sound_as, is_reserved_same, finalize_same, finalize_sound}
use Rattle.osal_idtable.proofs.table.Table.settle.Goals as goal

pub finalize-requires : goal.finalize-requires
finalize-requires g c =
    sym (is_reserved_same _ c.self.invariant c.args.id) ∙ ap (λ t. is_reserved t c.args.id) c.self.view_is ∙ c.requires

pub invariant_of-self : goal.invariant_of-self
invariant_of-self g c = sound_as c.finalize.ensures (finalize_sound _ c.self.invariant c.args.id c.args.value)

pub returns : goal.returns
returns g c =
    ap table_of c.finalize.ensures ∙ finalize_same _ c.self.invariant c.args.id c.args.value
    ∙ ap (λ t. finalize_step t c.args.id c.args.value) c.self.view_is
