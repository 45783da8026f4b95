use Rattle.std.proofs.Common.{◌≡◌, ◌≤◌, ℕ, List, true, length, sym, subst, ◌∙◌}
use Rattle.osal_select.specs.Sets.{is_in, Ascend}
use Rattle.osal_select.proofs.Orders.{with_there, with_room, with_ascends}
use Rattle.osal_select.proofs.set.FdSet.add.Goals as goal

-- a stream that is there changes nothing
pub returns-then-is_set-clause-set : goal.returns-then-is_set-clause-set
returns-then-is_set-clause-set c =
    let there : is_in c.args.id c.args.self.now ≡ true = sym c.is_set.ensures ∙ c.if-is_set.true in
    let order : Ascend c.args.self.now = subst Ascend c.self.view_is c.self.invariant.1 in
    rw there (sym (with_there 0 c.args.id c.args.self.now order there))

-- a stream more stands in its place, and there was room
pub invariant_of-self : goal.invariant_of-self
invariant_of-self c =
    let room : length c.put.new.ids.items ≤ 64 =
    subst (λ (ids : List ℕ). length ids ≤ 64) (sym c.put.ensures) (with_room _ _ _ c.is_full.ensures.value c.if-is_full.false c.self.invariant.0) in
    (room, subst Ascend (sym c.put.ensures) (with_ascends _ _ c.self.invariant.1))
