use Rattle.std.proofs.Common.{◌≡◌, ◌≤◌, ◌+◌, ℕ, List, [], length, drop, get_or, sym, ap, subst, ◌∙◌, arith}
use Rattle.std.proofs.lemmas.List.{drop_all}
use Rattle.osal_select.specs.Sets.{joined, Ascend}
use Rattle.osal_select.proofs.Orders.{with_ascends, joined_next, joined_room, joined_ascends, joined_length}
use Rattle.osal_select.proofs.set.put_each.Goals as goal

-- the next stream is in its place
pub loop-id-preserved : goal.loop-id-preserved
loop-id-preserved c =
    let id = get_or c.args.ids.now c.loop-id.id-index 0 in
    let rest = drop (c.loop-id.id-index + 1) c.args.ids.now in
    record {
      order = subst Ascend (sym c.put.ensures) (with_ascends id c.loop-id.all.items c.loop-id.invariant.order);
      room = subst (λ (ids : List ℕ). length ids + length rest ≤ 128) (sym c.put.ensures) (joined_room _ c.args.ids.now id c.loop-id.id-index c.loop-id-test.true c.loop-id.invariant.room);
      same = ap (λ (ids : List ℕ). joined ids rest) c.put.ensures ∙ sym (joined_next _ c.args.ids.now c.loop-id.id-index 0 c.loop-id-test.true) ∙ c.loop-id.invariant.same;
    }

-- no streams are left, so what is there is all
pub returns-clause-few : goal.returns-clause-few
returns-clause-few c =
    let all = joined_length c.args.all.now.items c.args.ids.now in
    let none : drop c.loop-id.id-index c.args.ids.now ≡ [] = drop_all c.loop-id.id-index c.args.ids.now (let stop = c.loop-id-test.false in omega arith) in
    let same : c.loop-id.all.items ≡ joined c.args.all.now.items c.args.ids.now = ap (joined c.loop-id.all.items) (sym none) ∙ c.loop-id.invariant.same in
    subst (λ (ids : List ℕ). length ids ≤ length c.args.all.now.items + length c.args.ids.now) (sym same) all
