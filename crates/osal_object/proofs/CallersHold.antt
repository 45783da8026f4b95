-- A caller's hold or release changes the holds of callers by one, and a wait leaves them.
use Rattle.std.proofs.Common.{◌≡◌, ◌<◌, ◌≤◌, ◌+◌, ◌-◌, ℕ, nat_lt, Some, refl, sym, ap, subst, arith}
use Rattle.std.proofs.lemmas.Bool.{cond_both}
use Rattle.std.proofs.lemmas.Bool.Decides.{nat_tests}
use Rattle.osal_base.specs.Reply.{Replied, success}
use Rattle.osal_idtable.specs.Table.{Active, active_at}
use Rattle.osal_object.specs.Waits.{waits_on, wait_of, wait_fault}
use Rattle.osal_object.specs.Objects.{ObjectsState, held_by_caller, released_by_caller, caller_hold_limit}
use Rattle.osal_object.specs.Moves.{Begin, End, changed}
use Rattle.osal_object.specs.ObjectLaws.{IsCounted, CallersHold, caller_holds}
use Rattle.osal_object.proofs.HeldEach.{write_here}
use Rattle.osal_object.proofs.Balance.{AreBalanced, balanced_begun, balanced_ended}

module _ {T W : Type 0} where
  -- the holds of callers of what stands under an identifier after a call that was accepted
  abbrev After : (ObjectsState T W → ℕ → Active T → Type 0) → ℕ → Replied × ObjectsState T W → Type 0
  After Holds id p = p.0 ≡ success → (new : Active T) → active_at p.1.table id ≡ Some new → Holds p.1 id new

  held_once_more : (objects : ObjectsState T W) (id : ℕ) (old : Active T) → waits_on objects.waits id ≤ old.holds → After (λ now q new. caller_holds now q new ≡ caller_holds objects id old + 1) id (held_by_caller objects id (Some old))
  held_once_more objects id old waits =
      cond_both (nat_lt old.holds caller_hold_limit) _ _ (After (λ now q new. caller_holds now q new ≡ caller_holds objects id old + 1) id)
      (λ t done new is.
      let holds = ap (λ (a : Active T). a.holds) (write_here objects.table id id (record old { holds = old.holds + 1 }) new refl is) in
      omega arith)
      (λ t done. let answers = ap (λ (reply : Replied). reply.answer) done in cc)

  released_once : (objects : ObjectsState T W) (id : ℕ) (old : Active T) → After (λ now q new. caller_holds now q new + 1 ≡ caller_holds objects id old) id (released_by_caller objects id (Some old))
  released_once objects id old =
      cond_both (nat_lt (waits_on objects.waits id) old.holds) _ _ (After (λ now q new. caller_holds now q new + 1 ≡ caller_holds objects id old) id)
      (λ t done new is.
      let holds = ap (λ (a : Active T). a.holds) (write_here objects.table id id (record old { holds = old.holds - 1 }) new refl is) in
      let more : waits_on objects.waits id < old.holds = grind (arith, nat_tests) in
      omega arith)
      (λ t done. let answers = ap (λ (reply : Replied). reply.answer) done in cc)

  balanced_callers : (objects after : ObjectsState T W) (id : ℕ) (old new : Active T) → IsCounted objects → AreBalanced objects after → active_at objects.table id ≡ Some old → active_at after.table id ≡ Some new → caller_holds after id new ≡ caller_holds objects id old
  balanced_callers objects after id old new counted balanced was now =
      let held = counted.held id old was in
      let waits = held.waits in
      let both = balanced id old new was now in
      omega arith

-- holds and releases change the holds of callers, and waits do not
pub callers_hold : (T W : Type 0) → CallersHold T W
callers_hold T W = record {
  hold = λ objects id old new counted was done now.
      let held = counted.held id old was in
      subst (λ o. After (λ after q a. caller_holds after q a ≡ caller_holds objects id old + 1) id (held_by_caller objects id o)) (sym was) (held_once_more objects id old held.waits) done new now;
  release = λ objects id old new counted was done now.
      subst (λ o. After (λ after q a. caller_holds after q a + 1 ≡ caller_holds objects id old) id (released_by_caller objects id o)) (sym was) (released_once objects id old) done new now;
  begin = λ objects wait id old new counted are was now.
      balanced_callers objects (changed objects (Begin wait)) id old new counted (balanced_begun objects counted wait are (wait_fault objects.waits wait.task) refl) was now;
  end = λ objects task id old new counted was now.
      balanced_callers objects (changed objects (End task)) id old new counted (balanced_ended objects counted task (wait_of objects.waits task) refl) was now;
}
