use Rattle.std.proofs.Common.{rules, arith, ◌≤◌, ◌==◌, ℕ, not, length, refl, sym, subst}
use Rattle.arrayvec.proofs.ArrayVecLemmas.{filter-from_retain}
use Rattle.osal_select.specs.Sets.{Ascend}
use Rattle.osal_select.proofs.Orders.{filter_ascends}
use Rattle.osal_select.proofs.set.FdSet.clear.Goals as goal

-- the streams that are left are those that the test passes
pub returns : goal.returns
returns c =
    let kept = filter-from_retain _ (λ (other : ℕ). not (other == c.args.id)) _ (λ x b f y said. search rules) _ _ c.retain.ensures.filtered in
    rw (← c.self.view_is, kept) refl

-- they are no more than before, in the same order
pub invariant_of-self : goal.invariant_of-self
invariant_of-self c =
    let kept = filter-from_retain _ (λ (other : ℕ). not (other == c.args.id)) _ (λ x b f y said. search rules) _ _ c.retain.ensures.filtered in
    let room : length c.retain.new.self.items ≤ 64 = omega (arith, c.retain.ensures.bound, c.self.invariant.0) in
    (room, subst Ascend (sym kept) (filter_ascends _ 0 _ c.self.invariant.1))
