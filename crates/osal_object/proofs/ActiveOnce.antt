-- An identifier becomes active only by a create that issues it, and so not again before the wrap count has risen.
use Rattle.std.proofs.Common.{◌≡◌, ◌<◌, ◌-◌, ◌^◌, ℕ, true, false, List, Option, ◌∷◌, Some, None, is_some, Result, Ok, Err, refl, sym, ap, subst, ◌∙◌, inl, inr, arith}
use Rattle.std.specs.FinMap as map
use Rattle.std.proofs.lemmas.Bool.{cases_eq, both_ways}
use Rattle.osal_idtable.specs.declared.table.ReserveFault.{ReserveFault}
use Rattle.osal_idtable.specs.declared.table.IdFault.{IdFault}
use Rattle.osal_idtable.specs.Table.{TableState, Reserved, active_at}
use Rattle.osal_idtable.specs.Steps.{reserve_step, finalize_step, take_out, unheld}
use Rattle.osal_idtable.specs.Laws.{Call, Finalize, after_calls}
use Rattle.osal_object.specs.Objects.{ObjectsState, created}
use Rattle.osal_object.specs.Moves.{Change, Move, Create, Remove, Changes, moved, after_changes, after_moves}
use Rattle.osal_object.specs.ObjectLaws.{NotActiveAgain}
use Rattle.osal_idtable.proofs.WellFormed.{gone_here, gone_there}
use Rattle.osal_idtable.proofs.Serials.{not_reissued, settle_stays}
use Rattle.osal_object.proofs.ByCalls.{IsByCalls, by_both, by_changes, by_moves}
use Rattle.osal_object.proofs.Activity.{reserve_active, settle_elsewhere, changes_alike}
use Rattle.osal_object.proofs.Wraps.{changes_wraps}

module _ {T : Type 0} where
  -- an identifier was issued under a name and made active in one step, and some calls came after that left the wrap count
  record IsMade (old new : TableState T) (id : ℕ) : Type 0 where
    name : Option (List ℕ)
    object : T
    reserved : Reserved
    issued : (reserve_step old name).0 ≡ Ok reserved
    after : IsByCalls (finalize_step (reserve_step old name).1 reserved.id (Some object)) new
    wraps : new.wraps ≡ (reserve_step old name).1.wraps
    same : reserved.id ≡ id

  made_is : (old : TableState T) (name : Option (List ℕ)) (object : T) (reserved : Reserved) (id : ℕ) → is_some (active_at old id) ≡ false → is_some (active_at (finalize_step (reserve_step old name).1 reserved.id (Some object)) id) ≡ true → reserved.id ≡ id
  made_is old name object reserved id before after =
      let table = (reserve_step old name).1 in
      elim (cases_eq id reserved.id) [
        | inl same ↦ sym same
        | inr ne ↦
            let kept : active_at (finalize_step table reserved.id (Some object)) id ≡ active_at old id =
            settle_elsewhere table reserved.id (map.get table.reserved reserved.id) object id ne ∙ ap (λ m. map.get m id) (reserve_active old name) in
            absurd (both_ways (is_some (active_at old id)) before (sym (ap is_some kept) ∙ after))
      ]

  none_taken_in : (table : TableState T) (id q : ℕ) (r : Result T IdFault) → is_some (active_at (take_out table id r).1 q) ≡ true → is_some (active_at table q) ≡ true
  none_taken_in table id q (Err fault) some = some
  none_taken_in table id q (Ok object) some =
      elim (cases_eq q id) [
        | inl same ↦
            let none : map.get (map.remove table.active id) q ≡ None = ap (map.get (map.remove table.active id)) same ∙ gone_here table.active id in
            absurd (both_ways (is_some (map.get (map.remove table.active id) q)) (ap is_some none) some)
        | inr ne ↦ sym (ap is_some (gone_there table.active id q ne)) ∙ some
      ]

  -- what is issued later is not the same before the wrap count has risen
  risen : (table : TableState T) (name : Option (List ℕ)) (object : T) (reserved : Reserved) → (reserve_step table name).0 ≡ Ok reserved → (calls : List (Call T)) (later : TableState T) → after_calls (finalize_step (reserve_step table name).1 reserved.id (Some object)) calls ≡ later → (other : Option (List ℕ)) (again : Reserved) → (reserve_step later other).0 ≡ Ok again → again.id ≡ reserved.id → (reserve_step table name).1.wraps < 2 ^ 64 - 1 → (reserve_step table name).1.wraps < (reserve_step later other).1.wraps
  risen table name object reserved issued calls later is other again =
      let P : TableState T → Type 0 = λ t. (reserve_step t other).0 ≡ Ok again → again.id ≡ reserved.id → (reserve_step table name).1.wraps < 2 ^ 64 - 1 → (reserve_step table name).1.wraps < (reserve_step t other).1.wraps in
      subst P is (not_reissued T table name reserved issued (Finalize reserved.id (Some object) ∷ calls) other again)

  risen_between : (old start later new : TableState T) (id : ℕ) → IsMade old start id → IsByCalls start later → IsMade later new id → start.wraps < 2 ^ 64 - 1 → start.wraps < new.wraps
  risen_between old start later new id first between second room =
      let at_first = first.wraps in
      let at_second = second.wraps in
      let on = by_both (finalize_step (reserve_step old first.name).1 first.reserved.id (Some first.object)) start later first.after between in
      let less = risen old first.name first.object first.reserved first.issued on.calls later on.same second.name second.reserved second.issued (second.same ∙ sym first.same) (omega arith) in
      omega arith

module _ {T W : Type 0} (objects : ObjectsState T W) (id : ℕ) (before : is_some (active_at objects.table id) ≡ false) where
  made_by : (name : Option (List ℕ)) (object : T) (changes : List (Change T W)) (r : Result Reserved ReserveFault) → (reserve_step objects.table name).0 ≡ r → is_some (active_at (after_changes (created objects object r (reserve_step objects.table name).1).1 changes).table id) ≡ true → IsMade objects.table (after_changes (created objects object r (reserve_step objects.table name).1).1 changes).table id
  made_by name object changes (Err fault) is after =
      absurd (both_ways (is_some (active_at objects.table id)) before (sym (changes_alike objects changes id) ∙ after))
  made_by name object changes (Ok reserved) is after =
      let table = (reserve_step objects.table name).1 in
      let new = (created objects object (Ok reserved) table).1 in
      record {
        name = name;
        object = object;
        reserved = reserved;
        issued = is;
        after = by_changes new changes;
        wraps = changes_wraps new changes ∙ ap (λ p. p.wraps) (settle_stays table reserved.id (map.get table.reserved reserved.id) (Some object)).1;
        same = made_is objects.table name object reserved id before (sym (changes_alike new changes id) ∙ after);
      }

  -- only a create makes an identifier active
  made : (move : Move T W) → is_some (active_at (moved objects move).table id) ≡ true → IsMade objects.table (moved objects move).table id
  made (Create name object changes) after = made_by name object changes (reserve_step objects.table name).0 refl after
  made (Remove other) after =
      absurd (both_ways (is_some (active_at objects.table id)) before (none_taken_in objects.table other id (unheld (active_at objects.table other)) after))
  made (Changes changes) after =
      absurd (both_ways (is_some (active_at objects.table id)) before (sym (changes_alike objects changes id) ∙ after))

-- between two moves that make an identifier active the wrap count rises
pub not_active_again : (T W : Type 0) → NotActiveAgain T W
not_active_again T W objects first between second id one two room =
    let start = moved objects first in
    let later = after_moves start between in
    risen_between objects.table start.table later.table (moved later second).table id (made objects id one.before first one.after) (by_moves start between) (made later id two.before second two.after) room
