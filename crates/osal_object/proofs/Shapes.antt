-- Every table keeps the type of its objects and the number of its slots.
use Rattle.std.proofs.Common.{◌≡◌, ℕ, List, [], ◌∷◌, nat_lt, Option, Some, None, Result, Ok, Err, refl, subst, ◌∙◌}
use Rattle.std.specs.FinMap as map
use Rattle.osal_idtable.specs.declared.place.Place.{Place}
use Rattle.osal_idtable.specs.declared.table.IdFault.{IdFault}
use Rattle.osal_idtable.specs.declared.table.ReserveFault.{ReserveFault}
use Rattle.osal_idtable.specs.Table.{Active, TableState, Reserved, active_at, hold_limit, is_name_taken, replaced}
use Rattle.osal_idtable.specs.Next.{next_place}
use Rattle.osal_idtable.specs.Steps.{issue, settle, take_out, unheld, claimed}
use Rattle.osal_idtable.specs.Holds.{held, released}
use Rattle.osal_idtable.specs.Laws.{Call, called, after_calls}
use Rattle.osal_idtable.specs.Laws as call
use Rattle.osal_object.specs.Objects.{ObjectsState}
use Rattle.osal_object.specs.Moves.{Move, moved}
use Rattle.osal_object.proofs.ByCalls.{by_move}
use Rattle.osal_idtable.proofs.Holding.{either}

-- two tables of one type of objects with as many slots
pub record SameShape {T : Type 0} (old new : TableState T) : Type 0 where
  pub kind : new.kind ≡ old.kind
  pub capacity : new.capacity ≡ old.capacity

module _ {T : Type 0} where
  -- a table has its own shape
  pub same_shape : (table : TableState T) → SameShape table table
  same_shape table = record { kind = refl; capacity = refl }

  -- one after another
  then_shape : (first second third : TableState T) → SameShape first second → SameShape second third → SameShape first third
  then_shape first second third front back = record { kind = back.kind ∙ front.kind; capacity = back.capacity ∙ front.capacity }

  issue_shape : (table : TableState T) (name : Option (List ℕ)) (o : Option Place) → SameShape table (issue table name o).1
  issue_shape table name None = same_shape table
  issue_shape table name (Some place) = record { kind = refl; capacity = refl }

  settle_shape : (table : TableState T) (id : ℕ) (o : Option (Option (List ℕ))) (value : Option T) → SameShape table (settle table id o value)
  settle_shape table id None value = same_shape table
  settle_shape table id (Some name) None = record { kind = refl; capacity = refl }
  settle_shape table id (Some name) (Some object) = record { kind = refl; capacity = refl }

  put_shape : (table : TableState T) (id : ℕ) (object : T) (o : Option (Active T)) → SameShape table (replaced table id object o)
  put_shape table id object None = same_shape table
  put_shape table id object (Some a) = record { kind = refl; capacity = refl }

  take_shape : (table : TableState T) (id : ℕ) (r : Result T IdFault) → SameShape table (take_out table id r).1
  take_shape table id (Ok object) = record { kind = refl; capacity = refl }
  take_shape table id (Err fault) = same_shape table

  claim_shape : (table : TableState T) (id : ℕ) (o : Option (Active T)) → SameShape table (claimed table id o).1
  claim_shape table id None = same_shape table
  claim_shape table id (Some a) =
      either (λ (p : Result (Reserved × T) IdFault × TableState T). SameShape table p.1) (nat_lt 0 a.holds) _ _ (same_shape table) (record { kind = refl; capacity = refl })

  hold_shape : (table : TableState T) (id : ℕ) (o : Option (Active T)) → SameShape table (held table id o).1
  hold_shape table id None = same_shape table
  hold_shape table id (Some a) =
      either (λ (p : Result (Unit {0}) IdFault × TableState T). SameShape table p.1) (nat_lt a.holds hold_limit) _ _ (record { kind = refl; capacity = refl }) (same_shape table)

  release_shape : (table : TableState T) (id : ℕ) (o : Option (Active T)) → SameShape table (released table id o).1
  release_shape table id None = same_shape table
  release_shape table id (Some a) =
      either (λ (p : Result (Unit {0}) IdFault × TableState T). SameShape table p.1) (nat_lt 0 a.holds) _ _ (record { kind = refl; capacity = refl }) (same_shape table)

  -- a call of a table keeps its shape
  call_shape : (table : TableState T) (made : Call T) → SameShape table (called table made)
  call_shape table (call.Reserve name) =
      either (λ (p : Result Reserved ReserveFault × TableState T). SameShape table p.1) (is_name_taken table name) _ _ (same_shape table) (issue_shape table name (next_place table))
  call_shape table (call.Finalize id value) = settle_shape table id (map.get table.reserved id) value
  call_shape table (call.Put id object) = put_shape table id object (active_at table id)
  call_shape table (call.Remove id) = take_shape table id (unheld (active_at table id))
  call_shape table (call.Claim id) = claim_shape table id (active_at table id)
  call_shape table (call.Hold id) = hold_shape table id (active_at table id)
  call_shape table (call.Release id) = release_shape table id (active_at table id)

  calls_shape : (table : TableState T) (calls : List (Call T)) → SameShape table (after_calls table calls)
  calls_shape table [] = same_shape table
  calls_shape table (made ∷ calls) =
      then_shape table (called table made) (after_calls (called table made) calls) (call_shape table made) (calls_shape (called table made) calls)

-- a move keeps the shape of its table
pub move_shape : {T W : Type 0} (objects : ObjectsState T W) (move : Move T W) → SameShape objects.table (moved objects move).table
move_shape objects move =
    let by = by_move objects move in subst (SameShape objects.table) by.same (calls_shape objects.table by.calls)
