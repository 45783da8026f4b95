-- Which steps leave the objects of a table as they are: holds and waits come and go, and the objects stay.
use Rattle.std.proofs.Common.{◌≡◌, ◌+◌, ◌-◌, ℕ, true, List, [], ◌∷◌, nat_lt, Option, Some, None, is_some, Result, Ok, Err, IfOk, refl, sym, ap, subst, ◌∙◌, inl, inr}
use Rattle.std.specs.FinMap as map
use Rattle.std.proofs.lemmas.Bool.{cases_eq, cond_both, both_ways}
use Rattle.osal_base.specs.declared.status.Status.{Status}
use Rattle.osal_base.specs.Reply.{Replied}
use Rattle.osal_idtable.specs.declared.table.IdFault.{IdFault}
use Rattle.osal_idtable.specs.declared.table.ReserveFault.{ReserveFault}
use Rattle.osal_object.specs.declared.waits.WaitRecord.{WaitRecord}
use Rattle.osal_idtable.specs.Table.{Active, TableState, Reserved, active_at, with_active, replaced, hold_limit}
use Rattle.osal_idtable.specs.Steps.{reserve_step, settle, finalize_step, take_out}
use Rattle.osal_idtable.specs.Holds.{held, hold_step, released, release_step}
use Rattle.osal_object.specs.Waits.{waits_on}
use Rattle.osal_object.specs.Objects.{ObjectsState, created, held_by_caller, released_by_caller, caller_hold_limit}
use Rattle.osal_object.specs.Waiting.{hold_each, release_each, begun, ended}
use Rattle.osal_idtable.proofs.Steps.{reserve_gives}
use Rattle.osal_idtable.proofs.WellFormed.{put_here, put_there, gone_there}
use Rattle.osal_object.proofs.Activity.{reserve_active, settle_elsewhere}
use Rattle.osal_object.proofs.Counted.{issued_inactive}

module _ {T : Type 0} where
  -- the object of what stands under an identifier
  abbrev pub object_of : Option (Active T) → Option T
  object_of None = None
  object_of (Some active) = Some active.object

  -- the object under an identifier, if it is active
  abbrev pub object_at : TableState T → ℕ → Option T
  object_at table id = object_of (active_at table id)

  -- the same objects stand under the same identifiers
  abbrev pub SameObjects : TableState T → TableState T → Type 0
  SameObjects old new = (q : ℕ) → object_at new q ≡ object_at old q

  -- what is written under an identifier stands there
  pub written_here : (table : TableState T) (id : ℕ) (b : Active T) → object_at (with_active table id b) id ≡ Some b.object
  written_here table id b = ap object_of (put_here table.active id b)

  -- a write of the same object, with other holds
  write_same : (table : TableState T) (id : ℕ) (a b : Active T) → active_at table id ≡ Some a → b.object ≡ a.object → SameObjects table (with_active table id b)
  write_same table id a b is one = λ q.
      elim (cases_eq q id) [
        | inl same ↦
            ap (object_at (with_active table id b)) same ∙ written_here table id b ∙ ap Some one
            ∙ sym (ap object_of (ap (active_at table) same ∙ is))
        | inr ne ↦ ap object_of (put_there table.active id b q ne)
      ]

  -- a put changes the object of no other identifier
  pub put_elsewhere : (table : TableState T) (id : ℕ) (object : T) (o : Option (Active T)) (q : ℕ) → (q ≡ id → ⊥) → object_at (replaced table id object o) q ≡ object_at table q
  put_elsewhere table id object None q ne = refl
  put_elsewhere table id object (Some a) q ne = ap object_of (put_there table.active id _ q ne)

  -- a hold leaves the objects
  hold_same : (table : TableState T) (id : ℕ) (o : Option (Active T)) → active_at table id ≡ o → SameObjects table (held table id o).1
  hold_same table id None is = λ q. refl
  hold_same table id (Some a) is =
      cond_both (nat_lt a.holds hold_limit) _ _ (λ (p : Result (Unit {0}) IdFault × TableState T). SameObjects table p.1)
      (λ t. write_same table id a (record a { holds = a.holds + 1 }) is refl)
      (λ t q. refl)

  -- a release leaves the objects
  release_same : (table : TableState T) (id : ℕ) (o : Option (Active T)) → active_at table id ≡ o → SameObjects table (released table id o).1
  release_same table id None is = λ q. refl
  release_same table id (Some a) is =
      cond_both (nat_lt 0 a.holds) _ _ (λ (p : Result (Unit {0}) IdFault × TableState T). SameObjects table p.1)
      (λ t. write_same table id a (record a { holds = a.holds - 1 }) is refl)
      (λ t q. refl)

  holds_same : (table : TableState T) (ids : List ℕ) → SameObjects table (hold_each table ids)
  holds_same table [] = λ q. refl
  holds_same table (id ∷ ids) =
      λ q. holds_same (hold_step table id).1 ids q ∙ hold_same table id (active_at table id) refl q

  releases_same : (table : TableState T) (ids : List ℕ) → SameObjects table (release_each table ids)
  releases_same table [] = λ q. refl
  releases_same table (id ∷ ids) =
      λ q. releases_same (release_step table id).1 ids q ∙ release_same table id (active_at table id) refl q

  -- a removal takes no other object
  pub taken_elsewhere : (table : TableState T) (id : ℕ) (r : Result T IdFault) (q : ℕ) → (q ≡ id → ⊥) → object_at (take_out table id r).1 q ≡ object_at table q
  taken_elsewhere table id (Err fault) q ne = refl
  taken_elsewhere table id (Ok object) q ne = ap object_of (gone_there table.active id q ne)

  -- an identifier that a reservation gives is reserved
  reserved_here : (table : TableState T) (name : Option (List ℕ)) (reserved : Reserved) → (reserve_step table name).0 ≡ Ok reserved → map.get (reserve_step table name).1.reserved reserved.id ≡ Some reserved.name
  reserved_here table name reserved is =
      subst (λ (r : Result Reserved ReserveFault). IfOk r (λ token. map.get (reserve_step table name).1.reserved token.id ≡ Some token.name)) is (reserve_gives table name)

  -- what is settled under a reserved identifier is its object
  settled_here : (table : TableState T) (id : ℕ) (o : Option (Option (List ℕ))) (name : Option (List ℕ)) (object : T) → o ≡ Some name → object_at (settle table id o (Some object)) id ≡ Some object
  settled_here table id None name object is = cc
  settled_here table id (Some other) name object is = ap object_of (put_here table.active id _)

module _ {T W : Type 0} (objects : ObjectsState T W) where
  -- a caller's hold leaves the objects
  pub caller_hold_same : (id : ℕ) (o : Option (Active T)) → active_at objects.table id ≡ o → SameObjects objects.table (held_by_caller objects id o).1.table
  caller_hold_same id None is = λ q. refl
  caller_hold_same id (Some a) is =
      cond_both (nat_lt a.holds caller_hold_limit) _ _ (λ (p : Replied × ObjectsState T W). SameObjects objects.table p.1.table)
      (λ t. write_same objects.table id a (record a { holds = a.holds + 1 }) is refl)
      (λ t q. refl)

  -- a caller's release leaves the objects
  pub caller_release_same : (id : ℕ) (o : Option (Active T)) → active_at objects.table id ≡ o → SameObjects objects.table (released_by_caller objects id o).1.table
  caller_release_same id None is = λ q. refl
  caller_release_same id (Some a) is =
      cond_both (nat_lt (waits_on objects.waits id) a.holds) _ _ (λ (p : Replied × ObjectsState T W). SameObjects objects.table p.1.table)
      (λ t. write_same objects.table id a (record a { holds = a.holds - 1 }) is refl)
      (λ t q. refl)

  -- the beginning of a wait leaves the objects
  pub begin_same : (wait : WaitRecord W) (o : Option Status) → SameObjects objects.table (begun objects wait o).1.table
  begin_same wait None = holds_same objects.table wait.on
  begin_same wait (Some fault) = λ q. refl

  -- the end of a wait leaves the objects
  pub end_same : (task : ℕ) (o : Option (WaitRecord W)) → SameObjects objects.table (ended objects task o).table
  end_same task None = λ q. refl
  end_same task (Some wait) = releases_same objects.table wait.on

  -- a create leaves each object that is there
  pub create_keeps : (name : Option (List ℕ)) (object : T) (r : Result Reserved ReserveFault) → (reserve_step objects.table name).0 ≡ r → (q : ℕ) → is_some (active_at objects.table q) ≡ true → object_at (created objects object r (reserve_step objects.table name).1).1.table q ≡ object_at objects.table q
  create_keeps name object (Err fault) is q some = refl
  create_keeps name object (Ok reserved) is q some =
      let table = (reserve_step objects.table name).1 in
      elim (cases_eq q reserved.id) [
        | inl same ↦
            absurd (both_ways _ (ap (λ k. is_some (active_at objects.table k)) same ∙ issued_inactive objects.table name reserved is) some)
        | inr ne ↦
            ap object_of (settle_elsewhere table reserved.id (map.get table.reserved reserved.id) object q ne)
            ∙ ap (λ m. object_of (map.get m q)) (reserve_active objects.table name)
      ]

  -- a create puts its object under the identifier that it gives
  pub created_here : (name : Option (List ℕ)) (object : T) (reserved : Reserved) → (reserve_step objects.table name).0 ≡ Ok reserved → object_at (finalize_step (reserve_step objects.table name).1 reserved.id (Some object)) reserved.id ≡ Some object
  created_here name object reserved is =
      let table = (reserve_step objects.table name).1 in
      settled_here table reserved.id (map.get table.reserved reserved.id) reserved.name object
      (reserved_here objects.table name reserved is)
