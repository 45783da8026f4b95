use Rattle.std.proofs.Common.{arith, sym, ◌∙◌}
use Rattle.osal_idtable.specs.Slots.{is_open}
use Rattle.osal_idtable.proofs.Course.{candidates_take, candidates_skip}
use Rattle.osal_idtable.proofs.slots.Slots.next_open.Goals as goal

pub returns-then-is_open-clause-value : goal.returns-then-is_open-clause-value
returns-then-is_open-clause-value g c =
    candidates_take (is_open c.args.self.now) c.capacity-capacity.result c.capacity-capacity.result c.loop-i._i c.loop-i.place c.after-place.result _ (omega arith) c.after-place.ensures (sym c.is_open.ensures ∙ c.if-is_open.true) c.loop-i.invariant

pub loop-i-preserved : goal.loop-i-preserved
loop-i-preserved g c =
    candidates_skip (is_open c.args.self.now) c.capacity-capacity.result c.capacity-capacity.result c.loop-i._i c.loop-i.place c.after-place.result _ (omega arith) c.after-place.ensures (sym c.is_open.ensures ∙ c.if-is_open.false) c.loop-i.invariant
