-- The holds of an object are those of callers and the open waits that stand on it, whatever moves are made.
use Rattle.std.proofs.Common.{◌≡◌, ◌≤◌, ◌+◌, ◌-◌, ℕ, false, not, List, [], ◌∷◌, length, nat_lt, Option, Some, None, is_some, Result, Ok, Err, refl, sym, ap, subst, length-append, ◌∙◌, inl, inr, arith}
use Rattle.std.specs.List.{list_any}
use Rattle.std.specs.FinMap as map
use Rattle.std.proofs.lemmas.Bool.{cases_eq, cond_both, both_ways, not-true, eqb-true}
use Rattle.std.proofs.lemmas.Bool.Decides.{nat_tests}
use Rattle.std.proofs.lemmas.List.{length-map}
use Rattle.osal_base.specs.declared.status.Status.{Status}
use Rattle.osal_base.specs.Identifier.{slot_of}
use Rattle.osal_base.specs.Limits.{IsCapacity}
use Rattle.osal_base.specs.Reply.{Replied}
use Rattle.osal_idtable.specs.declared.table.ReserveFault.{ReserveFault}
use Rattle.osal_idtable.specs.declared.table.IdFault.{IdFault}
use Rattle.osal_object.specs.declared.waits.WaitRecord.{WaitRecord}
use Rattle.osal_idtable.specs.Table.{Active, TableState, Reserved, active_at, with_active, is_name_taken, is_slot_taken}
use Rattle.osal_idtable.specs.Next.{next_place, is_free_at}
use Rattle.osal_idtable.specs.Steps.{reserve_step, settle, finalize_step, take_out, unheld}
use Rattle.osal_idtable.specs.Sound.{AtMostOne}
use Rattle.osal_object.specs.Waits.{is_of, waits_on, wait_of, wait_fault, released_if}
use Rattle.osal_object.specs.Objects.{ObjectsState, created, create_step, held_by_caller, released_by_caller, caller_hold_limit}
use Rattle.osal_object.specs.Waiting.{begun, ended}
use Rattle.osal_object.specs.Moves.{Change, Put, Hold, Release, Begin, End, Mark, Move, Create, Remove, Changes, changed, after_changes, moved, AreApart, IsAllowed, AreAllowed, MayMove}
use Rattle.osal_object.specs.ObjectLaws.{IsHeldBy, IsCounted, HoldsAreCounted}
use Rattle.osal_idtable.proofs.Steps.{find_passes}
use Rattle.osal_idtable.proofs.Placed.{itself}
use Rattle.osal_idtable.proofs.Serials.{issued}
use Rattle.osal_idtable.proofs.WellFormed.{missed, no_active, put_here, gone_here, gone_there}
use Rattle.osal_object.proofs.Activity.{Alike, Grows, change_alike, create_grows, reserve_active, settle_elsewhere, write_alike}
use Rattle.osal_object.proofs.Records.{once_more, once_kept, once_released, all_more, all_kept, all_released, fewer_kept, none_found}
use Rattle.osal_object.proofs.Apart.{AllStand, stand_grown, stand_without, none_stand}
use Rattle.osal_object.proofs.HeldEach.{there, write_here, write_there}
use Rattle.osal_object.proofs.Balance.{AreBalanced, balanced_put, balanced_released, balanced_begun, balanced_ended, may_begin}

module _ {T W : Type 0} where
  -- other waits and holds in balance with them are counted too
  balanced_counted : (old new : ObjectsState T W) → IsCounted old → new.waits.capacity ≡ old.waits.capacity → length new.waits.records ≤ new.waits.capacity → ((task : ℕ) → AtMostOne (is_of task) new.waits.records) → AllStand old.table new.waits.records → Alike old.table new.table → AreBalanced old new → IsCounted new
  balanced_counted old new counted room few once standing alike balanced = record {
    room = subst IsCapacity (sym room) counted.room;
    few = few;
    once = once;
    standing = stand_grown old.table new.table (λ q some. alike q ∙ some) new.waits.records standing;
    held = λ id b now.
        let before = there (active_at old.table id) (sym (alike id) ∙ ap is_some now) in
        let held = counted.held id before.0 before.1 in
        let waits = held.waits in
        let callers = held.callers in
        let both = balanced id before.0 b before.1 now in
        record { waits = omega arith; callers = omega arith };
  }

  -- the same waits, over a table with other holds
  reheld_counted : (objects : ObjectsState T W) (table : TableState T) → IsCounted objects → Grows objects.table table → ((id : ℕ) (active : Active T) → active_at table id ≡ Some active → IsHeldBy objects id active) → IsCounted (record objects { table = table })
  reheld_counted objects table counted grows held = record {
    room = counted.room;
    few = counted.few;
    once = counted.once;
    standing = stand_grown objects.table table grows objects.waits.records counted.standing;
    held = λ id active is. let told = held id active is in record { waits = told.waits; callers = told.callers };
  }

module _ {T W : Type 0} (objects : ObjectsState T W) (counted : IsCounted objects) where
  written_counted : (id : ℕ) (a v : Active T) → active_at objects.table id ≡ Some a → IsHeldBy objects id v → IsCounted (record objects { table = with_active objects.table id v })
  written_counted id a v is held =
      reheld_counted objects (with_active objects.table id v) counted
      (λ q some. write_alike objects.table id a v is q ∙ some)
      (λ q active now. elim (cases_eq id q) [
        | inl same ↦ let one = write_here objects.table id q v active same now in rw (← same, ← one) held
        | inr ne ↦
            let before = there (active_at objects.table q) (sym (write_alike objects.table id a v is q) ∙ ap is_some now) in
            let one = write_there objects.table id q v before.0 active ne before.1 now in
            rw (← one) (counted.held q before.0 before.1)
      ])

  hold_counted : (id : ℕ) (o : Option (Active T)) → active_at objects.table id ≡ o → IsCounted (held_by_caller objects id o).1
  hold_counted id None is = counted
  hold_counted id (Some a) is =
      let held = counted.held id a is in
      let waits = held.waits in
      cond_both (nat_lt a.holds caller_hold_limit) _ _ (λ (p : Replied × ObjectsState T W). IsCounted p.1)
      (λ t. written_counted id a (record a { holds = a.holds + 1 }) is (record { waits = omega arith; callers = grind (arith, nat_tests) }))
      (λ t. counted)

  release_counted : (id : ℕ) (o : Option (Active T)) → active_at objects.table id ≡ o → IsCounted (released_by_caller objects id o).1
  release_counted id None is = counted
  release_counted id (Some a) is =
      let held = counted.held id a is in
      let callers = held.callers in
      cond_both (nat_lt (waits_on objects.waits id) a.holds) _ _ (λ (p : Replied × ObjectsState T W). IsCounted p.1)
      (λ t. written_counted id a (record a { holds = a.holds - 1 }) is (record { waits = grind (arith, nat_tests); callers = omega arith }))
      (λ t. counted)

  begin_counted : (wait : WaitRecord W) → AreApart objects.table wait.on → (o : Option Status) → wait_fault objects.waits wait.task ≡ o → Alike objects.table (begun objects wait o).1.table → IsCounted (begun objects wait o).1
  begin_counted wait are (Some fault) is alike = counted
  begin_counted wait are None is alike =
      let may = may_begin objects.waits wait.task is in
      let none = none_found (is_of wait.task) objects.waits.records may.free in
      balanced_counted objects (begun objects wait None).1 counted refl
      (let room = may.room in omega (arith, length-append objects.waits.records (wait ∷ [])))
      (λ task. once_more (is_of task) objects.waits.records wait (counted.once task) (λ t. ap (λ k. list_any (is_of k) objects.waits.records) (sym (eqb-true wait.task task t)) ∙ none))
      (all_more (λ (one : WaitRecord W). AreApart objects.table one.on) objects.waits.records wait counted.standing are)
      alike (balanced_begun objects counted wait are None is)

  end_counted : (task : ℕ) (o : Option (WaitRecord W)) → wait_of objects.waits task ≡ o → Alike objects.table (ended objects task o).table → IsCounted (ended objects task o)
  end_counted task None is alike = counted
  end_counted task (Some wait) is alike =
      balanced_counted objects (ended objects task (Some wait)) counted refl
      (let fewer = fewer_kept (λ other. not (is_of task other)) objects.waits.records in let few = counted.few in omega arith)
      (λ other. once_kept (is_of other) (λ one. not (is_of task one)) objects.waits.records (counted.once other))
      (all_kept (λ (one : WaitRecord W). AreApart objects.table one.on) (λ one. not (is_of task one)) objects.waits.records counted.standing)
      alike (balanced_ended objects counted task (Some wait) is)

  change_counted : (change : Change T W) → IsAllowed objects change → IsCounted (changed objects change)
  change_counted (Put id object) may =
      balanced_counted objects (changed objects (Put id object)) counted refl counted.few counted.once counted.standing (change_alike objects (Put id object)) (balanced_put objects id object)
  change_counted (Hold id) may = hold_counted id (active_at objects.table id) refl
  change_counted (Release id) may = release_counted id (active_at objects.table id) refl
  change_counted (Begin wait) may = begin_counted wait may (wait_fault objects.waits wait.task) refl (change_alike objects (Begin wait))
  change_counted (End task) may = end_counted task (wait_of objects.waits task) refl (change_alike objects (End task))
  change_counted (Mark test) may =
      balanced_counted objects (changed objects (Mark test)) counted refl
      (let few = counted.few in omega (arith, length-map objects.waits.records (released_if test)))
      (λ task. once_released test task objects.waits.records (counted.once task))
      (all_released test (AreApart objects.table) objects.waits.records counted.standing)
      (change_alike objects (Mark test)) (balanced_released objects test)

module _ {T : Type 0} (table : TableState T) where
  vacant_inactive : (id : ℕ) (o : Option (Active T)) → active_at table id ≡ o → is_slot_taken table (slot_of id table.capacity) ≡ false → is_some o ≡ false
  vacant_inactive id None is vacant = refl
  vacant_inactive id (Some a) is vacant =
      absurd (both_ways _ (missed table id (slot_of id table.capacity) a.name (Some a) vacant is refl) (itself (slot_of id table.capacity)))

  -- an identifier that is issued was not active
  pub issued_inactive : (name : Option (List ℕ)) (reserved : Reserved) → (reserve_step table name).0 ≡ Ok reserved → is_some (active_at table reserved.id) ≡ false
  issued_inactive name reserved is =
      let got = issued table name (is_name_taken table name) (next_place table) reserved is in
      let vacant = not-true _ (find_passes (is_free_at table) _ got.place got.found) in
      vacant_inactive reserved.id (active_at table reserved.id) refl (ap (λ id. is_slot_taken table (slot_of id table.capacity)) got.id ∙ vacant)

  settled_unheld : (id : ℕ) (o : Option (Option (List ℕ))) (object : T) (a : Active T) → is_some (active_at table id) ≡ false → active_at (settle table id o (Some object)) id ≡ Some a → a.holds ≡ 0
  settled_unheld id None object a none is = absurd (both_ways _ none (ap is_some is))
  settled_unheld id (Some name) object a none is =
      let new : Active T = record { name = name; holds = 0; object = object } in
      let found : Some new ≡ Some a = sym (put_here table.active id new) ∙ is in
      let same : new ≡ a = cc in ap (λ (x : Active T). x.holds) (sym same)

module _ {T W : Type 0} (objects : ObjectsState T W) (counted : IsCounted objects) where
  create_counted : (name : Option (List ℕ)) (object : T) (r : Result Reserved ReserveFault) → (reserve_step objects.table name).0 ≡ r → IsCounted (created objects object r (reserve_step objects.table name).1).1
  create_counted name object (Err fault) is = counted
  create_counted name object (Ok reserved) is =
      let between = (reserve_step objects.table name).1 in
      let actives = reserve_active objects.table name in
      let inactive = issued_inactive objects.table name reserved is in
      reheld_counted objects (finalize_step between reserved.id (Some object)) counted
      (create_grows objects name object (Ok reserved))
      (λ id a now. elim (cases_eq id reserved.id) [
        | inl same ↦
            let before : is_some (active_at objects.table id) ≡ false = ap (λ k. is_some (active_at objects.table k)) same ∙ inactive in
            let none = none_stand objects.table id before objects.waits.records counted.standing in
            let free : is_some (active_at between reserved.id) ≡ false = ap (λ m. is_some (map.get m reserved.id)) actives ∙ inactive in
            let unheld = settled_unheld between reserved.id (map.get between.reserved reserved.id) object a free (ap (active_at (finalize_step between reserved.id (Some object))) (sym same) ∙ now) in
            record { waits = omega arith; callers = omega arith }
        | inr ne ↦
            let before = settle_elsewhere between reserved.id (map.get between.reserved reserved.id) object id ne ∙ ap (λ m. map.get m id) actives in
            counted.held id a (sym before ∙ now)
      ])

  lost_counted : (id : ℕ) (a : Active T) → active_at objects.table id ≡ Some a → a.holds ≡ 0 → IsCounted (record objects { table = record objects.table { active = map.remove objects.table.active id } })
  lost_counted id a is unheld =
      let held = counted.held id a is in
      let waits = held.waits in
      let table = record objects.table { active = map.remove objects.table.active id } in
      record {
        room = counted.room;
        few = counted.few;
        once = counted.once;
        standing = stand_without objects.table table id (λ q ne some. ap is_some (gone_there objects.table.active id q ne) ∙ some) objects.waits.records (omega arith) counted.standing;
        held = λ q b now. elim (cases_eq q id) [
          | inl same ↦
              let none : active_at table q ≡ None = ap (active_at table) same ∙ gone_here objects.table.active id in cc
          | inr ne ↦
              let told = counted.held q b (sym (gone_there objects.table.active id q ne) ∙ now) in
              record { waits = told.waits; callers = told.callers }
        ];
      }

  remove_counted : (id : ℕ) (o : Option (Active T)) → active_at objects.table id ≡ o → IsCounted (record objects { table = (take_out objects.table id (unheld o)).1 })
  remove_counted id None is = counted
  remove_counted id (Some a) is =
      cond_both (nat_lt 0 a.holds) _ _ (λ (r : Result T IdFault). IsCounted (record objects { table = (take_out objects.table id r).1 }))
      (λ t. counted)
      (λ t. lost_counted id a is (grind (arith, nat_tests)))

module _ {T W : Type 0} where
  changes_counted : (objects : ObjectsState T W) (changes : List (Change T W)) → IsCounted objects → AreAllowed objects changes → IsCounted (after_changes objects changes)
  changes_counted objects [] counted may = counted
  changes_counted objects (change ∷ changes) counted may =
      changes_counted (changed objects change) changes (change_counted objects counted change may.0) may.1

  move_counted : (objects : ObjectsState T W) (move : Move T W) → IsCounted objects → MayMove objects move → IsCounted (moved objects move)
  move_counted objects (Create name object changes) counted may =
      changes_counted (create_step objects name object).1 changes (create_counted objects counted name object (reserve_step objects.table name).0 refl) may.0
  move_counted objects (Remove id) counted may = remove_counted objects counted id (active_at objects.table id) refl
  move_counted objects (Changes changes) counted may = changes_counted objects changes counted may

-- the holds of an object are those of callers and the open waits that stand on it
pub holds_are_counted : (T W : Type 0) → HoldsAreCounted T W
holds_are_counted T W = (
  λ kind capacity tasks room. record {
    room = room;
    few = omega arith;
    once = λ task. tt;
    standing = tt;
    held = λ id a is. absurd (no_active T kind capacity id a is);
  },
  λ objects move counted may. move_counted objects move counted may,
)
