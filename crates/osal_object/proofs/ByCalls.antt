-- What a move does to the table of a part is some calls of the table.
use Rattle.std.proofs.Common.{◌≡◌, ◌<◌, ◌+◌, ◌-◌, ℕ, true, List, [], ◌∷◌, ◌++◌, nat_lt, Option, Some, None, Result, Ok, Err, refl, ap, subst, ◌∙◌, arith}
use Rattle.std.proofs.lemmas.Bool.{cond-true, cond_both}
use Rattle.std.proofs.lemmas.Bool.Decides.{nat_tests}
use Rattle.osal_base.specs.declared.status.Status.{Status}
use Rattle.osal_base.specs.Reply.{Replied}
use Rattle.osal_idtable.specs.declared.table.ReserveFault.{ReserveFault}
use Rattle.osal_idtable.specs.declared.table.IdFault.{IdFault}
use Rattle.osal_object.specs.declared.waits.WaitRecord.{WaitRecord}
use Rattle.osal_idtable.specs.Table.{Active, TableState, Reserved, active_at, with_active, hold_limit}
use Rattle.osal_idtable.specs.Steps.{reserve_step}
use Rattle.osal_idtable.specs.Holds.{held, hold_step, released, release_step}
use Rattle.osal_idtable.specs.Laws.{Call, called, after_calls}
use Rattle.osal_idtable.specs.Laws as call
use Rattle.osal_idtable.specs.WellFormed.{IsWellFormed}
use Rattle.osal_object.specs.Waits.{wait_fault, wait_of, waits_on}
use Rattle.osal_object.specs.Objects.{ObjectsState, created, create_step, held_by_caller, released_by_caller, caller_hold_limit}
use Rattle.osal_object.specs.Waiting.{hold_each, release_each, begun, ended}
use Rattle.osal_object.specs.Moves.{Change, Put, Hold, Release, Begin, End, Mark, Move, Create, Remove, Changes, changed, after_changes, moved, after_moves}
use Rattle.osal_object.specs.ObjectLaws.{TablesStayWellFormed}
use Rattle.osal_idtable.proofs.WellFormed.{stays_well_formed}

module _ {T : Type 0} where
  -- the second table is the first after some calls
  pub record IsByCalls (old new : TableState T) : Type 0 where
    pub calls : List (Call T)
    pub same : after_calls old calls ≡ new

  after_both : (table : TableState T) (first second : List (Call T)) → after_calls table (first ++ second) ≡ after_calls (after_calls table first) second
  after_both table [] second = refl
  after_both table (one ∷ first) second = after_both (called table one) first second

  by_none : (table : TableState T) → IsByCalls table table
  by_none table = record { calls = []; same = refl }

  by_one : (table : TableState T) (one : Call T) → IsByCalls table (called table one)
  by_one table one = record { calls = one ∷ []; same = refl }

  -- one after another
  pub by_both : (first second third : TableState T) → IsByCalls first second → IsByCalls second third → IsByCalls first third
  by_both first second third one two = record {
    calls = one.calls ++ two.calls;
    same = after_both first one.calls two.calls ∙ ap (λ t. after_calls t two.calls) one.same ∙ two.same;
  }

  -- a hold below the limit is taken
  pub hold_taken : (table : TableState T) (id : ℕ) (a : Active T) → active_at table id ≡ Some a → a.holds < hold_limit → (hold_step table id).1 ≡ with_active table id (record a { holds = a.holds + 1 })
  hold_taken table id a is below =
      let room : nat_lt a.holds hold_limit ≡ true = grind (arith, nat_tests) in
      ap (λ o. (held table id o).1) is ∙ ap (λ (p : Result (Unit {0}) IdFault × TableState T). p.1) (cond-true (nat_lt a.holds hold_limit) _ _ room)

  -- a hold that is there is given back
  pub release_taken : (table : TableState T) (id : ℕ) (a : Active T) → active_at table id ≡ Some a → 0 < a.holds → (release_step table id).1 ≡ with_active table id (record a { holds = a.holds - 1 })
  release_taken table id a is some =
      let one : nat_lt 0 a.holds ≡ true = grind (arith, nat_tests) in
      ap (λ o. (released table id o).1) is ∙ ap (λ (p : Result (Unit {0}) IdFault × TableState T). p.1) (cond-true (nat_lt 0 a.holds) _ _ one)

  by_holds : (table : TableState T) (ids : List ℕ) → IsByCalls table (hold_each table ids)
  by_holds table [] = by_none table
  by_holds table (id ∷ ids) =
      by_both table (called table (call.Hold id)) _ (by_one table (call.Hold id)) (by_holds (called table (call.Hold id)) ids)

  by_releases : (table : TableState T) (ids : List ℕ) → IsByCalls table (release_each table ids)
  by_releases table [] = by_none table
  by_releases table (id ∷ ids) =
      by_both table (called table (call.Release id)) _ (by_one table (call.Release id)) (by_releases (called table (call.Release id)) ids)

  good_after : (table : TableState T) (calls : List (Call T)) → IsWellFormed table → IsWellFormed (after_calls table calls)
  good_after table [] good = good
  good_after table (one ∷ calls) good = good_after (called table one) calls ((stays_well_formed T).1 table one good)

module _ {T W : Type 0} (objects : ObjectsState T W) where
  by_hold : (id : ℕ) (o : Option (Active T)) → active_at objects.table id ≡ o → IsByCalls objects.table (held_by_caller objects id o).1.table
  by_hold id None is = by_none objects.table
  by_hold id (Some a) is =
      cond_both (nat_lt a.holds caller_hold_limit) _ _ (λ (p : Replied × ObjectsState T W). IsByCalls objects.table p.1.table)
      (λ t. record { calls = call.Hold id ∷ []; same = hold_taken objects.table id a is (grind (arith, nat_tests)) })
      (λ t. by_none objects.table)

  by_release : (id : ℕ) (o : Option (Active T)) → active_at objects.table id ≡ o → IsByCalls objects.table (released_by_caller objects id o).1.table
  by_release id None is = by_none objects.table
  by_release id (Some a) is =
      cond_both (nat_lt (waits_on objects.waits id) a.holds) _ _ (λ (p : Replied × ObjectsState T W). IsByCalls objects.table p.1.table)
      (λ t. record { calls = call.Release id ∷ []; same = release_taken objects.table id a is (grind (arith, nat_tests)) })
      (λ t. by_none objects.table)

  by_begin : (wait : WaitRecord W) (o : Option Status) → IsByCalls objects.table (begun objects wait o).1.table
  by_begin wait None = by_holds objects.table wait.on
  by_begin wait (Some fault) = by_none objects.table

  by_end : (task : ℕ) (o : Option (WaitRecord W)) → IsByCalls objects.table (ended objects task o).table
  by_end task None = by_none objects.table
  by_end task (Some wait) = by_releases objects.table wait.on

  by_change : (change : Change T W) → IsByCalls objects.table (changed objects change).table
  by_change (Put id object) = by_one objects.table (call.Put id object)
  by_change (Hold id) = by_hold id (active_at objects.table id) refl
  by_change (Release id) = by_release id (active_at objects.table id) refl
  by_change (Begin wait) = by_begin wait (wait_fault objects.waits wait.task)
  by_change (End task) = by_end task (wait_of objects.waits task)
  by_change (Mark test) = by_none objects.table

  by_create : (name : Option (List ℕ)) (object : T) (r : Result Reserved ReserveFault) → IsByCalls objects.table (created objects object r (reserve_step objects.table name).1).1.table
  by_create name object (Err fault) = by_none objects.table
  by_create name object (Ok reserved) = record {
    calls = call.Reserve name ∷ call.Finalize reserved.id (Some object) ∷ [];
    same = refl;
  }

module _ {T W : Type 0} where
  -- changes are some calls
  pub by_changes : (objects : ObjectsState T W) (changes : List (Change T W)) → IsByCalls objects.table (after_changes objects changes).table
  by_changes objects [] = by_none objects.table
  by_changes objects (change ∷ changes) =
      by_both objects.table (changed objects change).table _ (by_change objects change) (by_changes (changed objects change) changes)

  -- a move is some calls
  pub by_move : (objects : ObjectsState T W) (move : Move T W) → IsByCalls objects.table (moved objects move).table
  by_move objects (Create name object changes) =
      let new = (create_step objects name object).1 in
      by_both objects.table new.table _ (by_create objects name object (reserve_step objects.table name).0) (by_changes new changes)
  by_move objects (Remove id) = by_one objects.table (call.Remove id)
  by_move objects (Changes changes) = by_changes objects changes

  -- moves are some calls
  pub by_moves : (objects : ObjectsState T W) (moves : List (Move T W)) → IsByCalls objects.table (after_moves objects moves).table
  by_moves objects [] = by_none objects.table
  by_moves objects (move ∷ moves) =
      by_both objects.table (moved objects move).table _ (by_move objects move) (by_moves (moved objects move) moves)

-- the table of a part stays well formed
pub tables_stay_well_formed : (T W : Type 0) → TablesStayWellFormed T W
tables_stay_well_formed T W objects move good =
    let by = by_move objects move in subst IsWellFormed by.same (good_after objects.table by.calls good)
