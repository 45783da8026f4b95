-- An object that becomes active is not held, and no wait stands on it.
use Rattle.std.proofs.Common.{◌≡◌, ℕ, Bool, true, false, List, Option, Some, is_some, Result, Ok, Err, None, inl, inr, refl, sym, ap, ◌∙◌, arith}
use Rattle.std.specs.FinMap as map
use Rattle.std.proofs.lemmas.Bool.{cases_eq, both_ways}
use Rattle.osal_idtable.specs.declared.table.IdFault.{IdFault}
use Rattle.osal_idtable.specs.declared.table.ReserveFault.{ReserveFault}
use Rattle.osal_idtable.specs.Table.{Active, TableState, Reserved, active_at}
use Rattle.osal_idtable.specs.Steps.{reserve_step, settle, take_out, unheld}
use Rattle.osal_idtable.proofs.WellFormed.{put_here, gone_here, gone_there}
use Rattle.osal_object.specs.Objects.{ObjectsState, created, create_step}
use Rattle.osal_object.specs.Waits.{waits_on}
use Rattle.osal_object.specs.Moves.{Move, Create, Remove, Changes, moved, MayMove}
use Rattle.osal_object.specs.ObjectLaws.{IsCounted, holds_of}
use Rattle.osal_object.proofs.Activity.{changes_alike, reserve_active, settle_elsewhere}
use Rattle.osal_object.proofs.HeldEach.{there, one_there}
use Rattle.osal_object.proofs.Moves.{IsMove, is_there}
use Rattle.osal_call.specs.declared.call.Entry.{Entry}
use Rattle.osal_machine.specs.Parts.{is_active_in}
use Rattle.osal_machine.specs.Step.{MachineState, part_in}
use Rattle.osal_machine.specs.History.{after_entry}
use Rattle.osal_laws.specs.Laws.{AreCounted, holds_in}
use Rattle.osal_laws.specs.Holds.{waits_in}
use Rattle.osal_laws.proofs.NoneHeld.{changes_unheld}
use Rattle.osal_laws.proofs.Places.{by_place}
use Rattle.osal_laws.proofs.Replays.{entry_moves}

settled_new : {T : Type 0} (table : TableState T) (id : ℕ) (o : Option (Option (List ℕ))) (object : T) (b : Active T) → is_some (active_at table id) ≡ false → active_at (settle table id o (Some object)) id ≡ Some b → b.holds ≡ 0
settled_new table id None object b none now = absurd (both_ways _ none (ap is_some now))
settled_new table id (Some name) object b none now =
    let new : Active _ = record { name = name; holds = 0; object = object } in
    ap (λ (x : Active _). x.holds) (one_there (active_at (settle table id (Some name) (Some object)) id) b new now (put_here table.active id new))

module _ {T W : Type 0} (objects : ObjectsState T W) (q : ℕ) (none : is_there objects q ≡ false) (b : Active T) where
  -- a new object is not held
  pub created_new : (name : Option (List ℕ)) (object : T) (r : Result Reserved ReserveFault) → active_at (created objects object r (reserve_step objects.table name).1).1.table q ≡ Some b → b.holds ≡ 0
  created_new name object (Err fault) now = absurd (both_ways _ none (ap is_some now))
  created_new name object (Ok reserved) now =
      let table = (reserve_step objects.table name).1 in
      let same_map = reserve_active objects.table name in
      elim (cases_eq q reserved.id) [
        | inl same ↦
            settled_new table reserved.id (map.get table.reserved reserved.id) object b
            (ap (λ m. is_some (map.get m reserved.id)) same_map ∙ ap (λ k. is_some (active_at objects.table k)) (sym same) ∙ none)
            (ap (active_at (settle table reserved.id (map.get table.reserved reserved.id) (Some object))) (sym same) ∙ now)
        | inr ne ↦
            let kept = settle_elsewhere table reserved.id (map.get table.reserved reserved.id) object q ne ∙ ap (λ m. map.get m q) same_map in
            absurd (both_ways (is_there objects q) none (ap is_some (sym kept ∙ now)))
      ]

  taken_new : (id : ℕ) (r : Result T IdFault) → active_at (take_out objects.table id r).1 q ≡ Some b → b.holds ≡ 0
  taken_new id (Err fault) now = absurd (both_ways _ none (ap is_some now))
  taken_new id (Ok object) now =
      elim (cases_eq q id) [
        | inl same ↦
            let gone : map.get (map.remove objects.table.active id) q ≡ None = ap (map.get (map.remove objects.table.active id)) same ∙ gone_here objects.table.active id in
            absurd (both_ways _ (ap is_some gone) (ap is_some now))
        | inr ne ↦
            absurd (both_ways (is_there objects q) none (ap is_some (sym (gone_there objects.table.active id q ne) ∙ now)))
      ]

module _ {T W : Type 0} (objects : ObjectsState T W) (q : ℕ) (none : is_there objects q ≡ false) (b : Active T) where
  moved_new : (move : Move T W) → MayMove objects move → active_at (moved objects move).table q ≡ Some b → b.holds ≡ 0
  moved_new (Create name object changes) may now =
      changes_unheld q (create_step objects name object).1 changes may.1
      (λ a is. created_new objects q none a name object (reserve_step objects.table name).0 is) b now
  moved_new (Remove id) may now = taken_new objects q none b id (unheld (active_at objects.table id)) now
  moved_new (Changes changes) may now =
      absurd (both_ways (is_there objects q) none (sym (changes_alike objects changes q) ∙ ap is_some now))

-- what a move makes active has as many holds as waits that stand on it: none
move_new : {T W : Type 0} (q : ℕ) (old new : ObjectsState T W) → IsMove old new → IsCounted new → is_there old q ≡ false → is_there new q ≡ true → holds_of (active_at new.table q) ≡ waits_on new.waits q
move_new q old new by counted none some =
    let found = there (active_at new.table q) some in
    let zero = moved_new old q none found.0 by.move by.may (ap (λ (o : ObjectsState _ _). active_at o.table q) (sym by.is) ∙ found.1) in
    let held = counted.held q found.0 found.1 in
    let waits = held.waits in
    let holds = ap holds_of found.1 in
    omega arith

-- what an entry makes active in a part has as many holds as waits that stand on it
pub entry_new : (state : MachineState) (entry : Entry) → AreCounted (after_entry state entry) → (q part : ℕ) → is_active_in (part_in part state) q ≡ false → is_active_in (part_in part (after_entry state entry)) q ≡ true → holds_in (part_in part (after_entry state entry)) q ≡ waits_in (part_in part (after_entry state entry)) q
entry_new state entry counted q part =
    let next = after_entry state entry in
    by_place (λ look.
    let there : MachineState → Bool = look Bool (λ T W objects. is_there objects q) false in
    there state ≡ false → there next ≡ true → look ℕ (λ T W objects. holds_of (active_at objects.table q)) 0 next ≡ look ℕ (λ T W objects. waits_on objects.waits q) 0 next)
    (λ T W of place. move_new q (of state) (of next) (entry_moves place state entry) (place.has (λ T W objects. IsCounted objects) next counted))
    (λ was now. absurd (both_ways false refl now)) part q
