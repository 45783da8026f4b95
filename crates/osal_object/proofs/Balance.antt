-- A wait that begins or ends changes the holds of an object by as many as it changes the waits on it.
use Rattle.std.proofs.Common.{◌≡◌, ◌<◌, ◌+◌, ℕ, Bool, true, false, cond, List, length, nat_lt, Option, Some, None, is_some, refl, sym, ap, ◌∙◌, arith}
use Rattle.std.proofs.lemmas.Bool.Decides.{nat_tests}
use Rattle.osal_base.specs.declared.status.Status.{Status}
use Rattle.osal_base.specs.declared.status.Status.TheVariants as status
use Rattle.osal_object.specs.declared.waits.WaitRecord.{WaitRecord}
use Rattle.osal_idtable.specs.Table.{Active, active_at, hold_limit}
use Rattle.osal_object.specs.Waits.{WaitsState, is_of, waits_on, wait_of, wait_fault}
use Rattle.osal_object.specs.Objects.{ObjectsState, with_value}
use Rattle.osal_object.specs.Waiting.{begun, ended, release_waits}
use Rattle.osal_object.specs.Moves.{AreApart}
use Rattle.osal_object.specs.ObjectLaws.{IsCounted}
use Rattle.osal_object.proofs.HeldEach.{one_there, EachHas, holds_more, holds_less, put_holds}
use Rattle.osal_object.proofs.Records.{share, count_more, count_few, count_less, count_released, found_is}

-- why a wait is not refused: no wait of its task is open, and there is room for one more
unrefused : (busy room : Bool) (first second : Status) → cond busy (Some first) (cond room None (Some second)) ≡ None → (busy ≡ false) × (room ≡ true)
unrefused true room first second is = cc
unrefused false true first second is = (refl, refl)
unrefused false false first second is = cc

module _ {W : Type 0} where
  -- a wait that may begin: no wait of its task is open, and there is room for one more
  pub record MayBegin (waits : WaitsState W) (task : ℕ) : Type 0 where
    pub free : is_some (wait_of waits task) ≡ false
    pub room : length waits.records < waits.capacity

  -- a wait that is not refused may begin
  pub may_begin : (waits : WaitsState W) (task : ℕ) → wait_fault waits task ≡ None → MayBegin waits task
  may_begin waits task is =
      let parts = unrefused (is_some (wait_of waits task)) (nat_lt (length waits.records) waits.capacity) status.ErrIncorrectObjState status.Error is in
      let below = parts.1 in record { free = parts.0; room = grind (arith, nat_tests) }

module _ {T W : Type 0} where
  -- the holds of each object change by as many as the waits that stand on it
  abbrev pub AreBalanced : ObjectsState T W → ObjectsState T W → Type 0
  AreBalanced old new =
      (q : ℕ) (a b : Active T) → active_at old.table q ≡ Some a → active_at new.table q ≡ Some b → b.holds + waits_on old.waits q ≡ a.holds + waits_on new.waits q

  -- where nothing changes
  balanced_same : (objects : ObjectsState T W) → AreBalanced objects objects
  balanced_same objects = λ q a b was now.
      ap (λ (x : Active T). x.holds + waits_on objects.waits q) (sym (one_there (active_at objects.table q) a b was now))

  -- another object changes no holds
  pub balanced_put : (objects : ObjectsState T W) (id : ℕ) (object : T) → AreBalanced objects (with_value objects id object)
  balanced_put objects id object = λ q a b was now.
      ap (λ n. n + waits_on objects.waits q) (put_holds objects.table id object (active_at objects.table id) refl q a b was now)

  -- a wait that is released stands where it stood
  pub balanced_released : (objects : ObjectsState T W) (test : WaitRecord W → Bool) → AreBalanced objects (release_waits objects test)
  balanced_released objects test = λ q a b was now.
      balanced_same objects q a b was now ∙ ap (λ n. a.holds + n) (sym (count_released test q objects.waits.records))

  module _ (objects : ObjectsState T W) (counted : IsCounted objects) where
    below_limit : length objects.waits.records < objects.waits.capacity → (ids : List ℕ) → EachHas (λ n. n < hold_limit) objects.table ids
    below_limit room ids = λ q a is was.
        let held = counted.held q a was in
        let callers = held.callers in
        let waits = held.waits in
        let few = count_few q objects.waits.records in
        let capacity = counted.room in
        omega arith

    -- a wait that begins holds each object that it stands on
    pub balanced_begun : (wait : WaitRecord W) → AreApart objects.table wait.on → (o : Option Status) → wait_fault objects.waits wait.task ≡ o → AreBalanced objects (begun objects wait o).1
    balanced_begun wait are (Some fault) is = balanced_same objects
    balanced_begun wait are None is = λ q a b was now.
        let may = may_begin objects.waits wait.task is in
        let more = holds_more objects.table wait.on are (below_limit may.room wait.on) q a b was now in
        let count = count_more q objects.waits.records wait in
        omega arith

    some_held : (task : ℕ) (wait : WaitRecord W) → wait_of objects.waits task ≡ Some wait → EachHas (λ n. 0 < n) objects.table wait.on
    some_held task wait is = λ q a on was.
        let held = counted.held q a was in
        let waits = held.waits in
        let count = count_less q (is_of task) objects.waits.records wait (counted.once task) is in
        let one : share q wait ≡ 1 = rw on refl in
        omega arith

    -- a wait that ends gives each of its holds back
    pub balanced_ended : (task : ℕ) (o : Option (WaitRecord W)) → wait_of objects.waits task ≡ o → AreBalanced objects (ended objects task o)
    balanced_ended task None is = balanced_same objects
    balanced_ended task (Some wait) is = λ q a b was now.
        let are : AreApart objects.table wait.on = found_is (λ (one : WaitRecord W). AreApart objects.table one.on) (is_of task) objects.waits.records wait counted.standing is in
        let less = holds_less objects.table wait.on are (some_held task wait is) q a b was now in
        let count = count_less q (is_of task) objects.waits.records wait (counted.once task) is in
        omega arith
