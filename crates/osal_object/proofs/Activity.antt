-- Which identifiers are active after a move: a create adds one, a removal takes one that nobody holds, and changes leave them.
use Rattle.std.proofs.Common.{◌≡◌, ◌+◌, ◌-◌, ℕ, true, false, List, [], ◌∷◌, nat_lt, Option, Some, None, is_some, Result, Ok, Err, refl, sym, ap, subst, ◌∙◌, arith, inl, inr}
use Rattle.std.specs.FinMap as map
use Rattle.std.proofs.lemmas.Bool.{cases_eq, cond_both, both_ways}
use Rattle.std.proofs.lemmas.Bool.Decides.{nat_tests}
use Rattle.osal_base.specs.declared.status.Status.{Status}
use Rattle.osal_base.specs.Reply.{Replied}
use Rattle.osal_idtable.specs.declared.place.Place.{Place}
use Rattle.osal_idtable.specs.declared.table.ReserveFault.{ReserveFault}
use Rattle.osal_idtable.specs.declared.table.IdFault.{IdFault}
use Rattle.osal_object.specs.declared.waits.WaitRecord.{WaitRecord}
use Rattle.osal_idtable.specs.Table.{Active, TableState, Reserved, active_at, with_active, replaced, hold_limit, is_name_taken}
use Rattle.osal_idtable.specs.Next.{next_place}
use Rattle.osal_idtable.specs.Steps.{issue, reserve_step, settle, take_out, unheld}
use Rattle.osal_idtable.specs.Holds.{held, hold_step, released, release_step}
use Rattle.osal_object.specs.Waits.{wait_fault, wait_of, waits_on}
use Rattle.osal_object.specs.Objects.{ObjectsState, created, create_step, held_by_caller, released_by_caller, caller_hold_limit}
use Rattle.osal_object.specs.Waiting.{hold_each, release_each, begun, ended}
use Rattle.osal_object.specs.Moves.{Change, Put, Hold, Release, Begin, End, Mark, Create, Remove, Changes, changed, after_changes}
use Rattle.osal_object.specs.ObjectLaws.{HeldObjectsStay}
use Rattle.osal_idtable.proofs.WellFormed.{put_here, put_there, gone_there}

module _ {T : Type 0} where
  -- the same identifiers are active in both tables
  abbrev pub Alike : TableState T → TableState T → Type 0
  Alike old new = (q : ℕ) → is_some (active_at new q) ≡ is_some (active_at old q)

  -- what is active in the first table is active in the second
  abbrev pub Grows : TableState T → TableState T → Type 0
  Grows old new = (q : ℕ) → is_some (active_at old q) ≡ true → is_some (active_at new q) ≡ true

  -- a write under an active identifier makes nothing active and removes nothing
  pub write_alike : (table : TableState T) (id : ℕ) (a b : Active T) → active_at table id ≡ Some a → Alike table (with_active table id b)
  write_alike table id a b is = λ q.
      elim (cases_eq q id) [
        | inl same ↦
            ap is_some (ap (map.get (map.insert table.active id b)) same ∙ put_here table.active id b)
            ∙ sym (ap is_some (ap (active_at table) same ∙ is))
        | inr ne ↦ ap is_some (put_there table.active id b q ne)
      ]

  put_alike : (table : TableState T) (id : ℕ) (object : T) (o : Option (Active T)) → active_at table id ≡ o → Alike table (replaced table id object o)
  put_alike table id object None is = λ q. refl
  put_alike table id object (Some a) is = write_alike table id a (record a { object = object }) is

  -- a hold makes nothing active and removes nothing
  pub hold_alike : (table : TableState T) (id : ℕ) (o : Option (Active T)) → active_at table id ≡ o → Alike table (held table id o).1
  hold_alike table id None is = λ q. refl
  hold_alike table id (Some a) is =
      cond_both (nat_lt a.holds hold_limit) _ _ (λ (p : Result (Unit {0}) IdFault × TableState T). Alike table p.1)
      (λ t. write_alike table id a (record a { holds = a.holds + 1 }) is)
      (λ t q. refl)

  -- a release makes nothing active and removes nothing
  pub release_alike : (table : TableState T) (id : ℕ) (o : Option (Active T)) → active_at table id ≡ o → Alike table (released table id o).1
  release_alike table id None is = λ q. refl
  release_alike table id (Some a) is =
      cond_both (nat_lt 0 a.holds) _ _ (λ (p : Result (Unit {0}) IdFault × TableState T). Alike table p.1)
      (λ t. write_alike table id a (record a { holds = a.holds - 1 }) is)
      (λ t q. refl)

  holds_alike : (table : TableState T) (ids : List ℕ) → Alike table (hold_each table ids)
  holds_alike table [] = λ q. refl
  holds_alike table (id ∷ ids) =
      λ q. holds_alike (hold_step table id).1 ids q ∙ hold_alike table id (active_at table id) refl q

  releases_alike : (table : TableState T) (ids : List ℕ) → Alike table (release_each table ids)
  releases_alike table [] = λ q. refl
  releases_alike table (id ∷ ids) =
      λ q. releases_alike (release_step table id).1 ids q ∙ release_alike table id (active_at table id) refl q

  issue_active : (table : TableState T) (name : Option (List ℕ)) (o : Option Place) → (issue table name o).1.active ≡ table.active
  issue_active table name None = refl
  issue_active table name (Some place) = refl

  -- a reservation makes nothing active
  pub reserve_active : (table : TableState T) (name : Option (List ℕ)) → (reserve_step table name).1.active ≡ table.active
  reserve_active table name =
      cond_both (is_name_taken table name) _ _ (λ (p : Result Reserved ReserveFault × TableState T). p.1.active ≡ table.active)
      (λ t. refl)
      (λ t. issue_active table name (next_place table))

  settle_grows : (table : TableState T) (id : ℕ) (o : Option (Option (List ℕ))) (object : T) → Grows table (settle table id o (Some object))
  settle_grows table id None object = λ q some. some
  settle_grows table id (Some name) object = λ q some.
      elim (cases_eq q id) [
        | inl same ↦ ap is_some (ap (map.get (map.insert table.active id _)) same ∙ put_here table.active id _)
        | inr ne ↦ ap is_some (put_there table.active id _ q ne) ∙ some
      ]

  -- a finalization makes at most its own identifier active
  pub settle_elsewhere : (table : TableState T) (id : ℕ) (o : Option (Option (List ℕ))) (object : T) (q : ℕ) → (q ≡ id → ⊥) → active_at (settle table id o (Some object)) q ≡ active_at table q
  settle_elsewhere table id None object q ne = refl
  settle_elsewhere table id (Some name) object q ne = put_there table.active id _ q ne

  lost_unheld : (table : TableState T) (id q : ℕ) (a b : Active T) → active_at table id ≡ Some b → active_at table q ≡ Some a → nat_lt 0 b.holds ≡ false → is_some (map.get (map.remove table.active id) q) ≡ false → a.holds ≡ 0
  lost_unheld table id q a b is here none gone =
      elim (cases_eq q id) [
        | inl same ↦
            let found : Some b ≡ Some a = sym is ∙ ap (active_at table) (sym same) ∙ here in
            let one : b ≡ a = cc in
            let unheld : b.holds ≡ 0 = grind (arith, nat_tests) in
            subst (λ (x : Active T). x.holds ≡ 0) one unheld
        | inr ne ↦ absurd (both_ways (is_some (active_at table q)) (sym (ap is_some (gone_there table.active id q ne)) ∙ gone) (ap is_some here))
      ]

  -- only an object that nobody holds is taken out
  taken_unheld : (table : TableState T) (id q : ℕ) (o : Option (Active T)) (a : Active T) → active_at table id ≡ o → active_at table q ≡ Some a → is_some (active_at (take_out table id (unheld o)).1 q) ≡ false → a.holds ≡ 0
  taken_unheld table id q None a is here = λ gone. absurd (both_ways (is_some (active_at table q)) gone (ap is_some here))
  taken_unheld table id q (Some b) a is here =
      cond_both (nat_lt 0 b.holds) _ _ (λ (r : Result T IdFault). is_some (active_at (take_out table id r).1 q) ≡ false → a.holds ≡ 0)
      (λ t gone. absurd (both_ways (is_some (active_at table q)) gone (ap is_some here)))
      (λ t gone. lost_unheld table id q a b is here t gone)

module _ {T W : Type 0} (objects : ObjectsState T W) where
  caller_hold_alike : (id : ℕ) (o : Option (Active T)) → active_at objects.table id ≡ o → Alike objects.table (held_by_caller objects id o).1.table
  caller_hold_alike id None is = λ q. refl
  caller_hold_alike id (Some a) is =
      cond_both (nat_lt a.holds caller_hold_limit) _ _ (λ (p : Replied × ObjectsState T W). Alike objects.table p.1.table)
      (λ t. write_alike objects.table id a (record a { holds = a.holds + 1 }) is)
      (λ t q. refl)

  caller_release_alike : (id : ℕ) (o : Option (Active T)) → active_at objects.table id ≡ o → Alike objects.table (released_by_caller objects id o).1.table
  caller_release_alike id None is = λ q. refl
  caller_release_alike id (Some a) is =
      cond_both (nat_lt (waits_on objects.waits id) a.holds) _ _ (λ (p : Replied × ObjectsState T W). Alike objects.table p.1.table)
      (λ t. write_alike objects.table id a (record a { holds = a.holds - 1 }) is)
      (λ t q. refl)

  begin_alike : (wait : WaitRecord W) (o : Option Status) → Alike objects.table (begun objects wait o).1.table
  begin_alike wait None = holds_alike objects.table wait.on
  begin_alike wait (Some fault) = λ q. refl

  end_alike : (task : ℕ) (o : Option (WaitRecord W)) → Alike objects.table (ended objects task o).table
  end_alike task None = λ q. refl
  end_alike task (Some wait) = releases_alike objects.table wait.on

  -- a change makes nothing active and removes nothing
  pub change_alike : (change : Change T W) → Alike objects.table (changed objects change).table
  change_alike (Put id object) = put_alike objects.table id object (active_at objects.table id) refl
  change_alike (Hold id) = caller_hold_alike id (active_at objects.table id) refl
  change_alike (Release id) = caller_release_alike id (active_at objects.table id) refl
  change_alike (Begin wait) = begin_alike wait (wait_fault objects.waits wait.task)
  change_alike (End task) = end_alike task (wait_of objects.waits task)
  change_alike (Mark test) = λ q. refl

  -- a create removes nothing
  pub create_grows : (name : Option (List ℕ)) (object : T) (r : Result Reserved ReserveFault) → Grows objects.table (created objects object r (reserve_step objects.table name).1).1.table
  create_grows name object (Err fault) = λ q some. some
  create_grows name object (Ok reserved) = λ q some.
      let table = (reserve_step objects.table name).1 in
      settle_grows table reserved.id (map.get table.reserved reserved.id) object q
      (ap (λ m. is_some (map.get m q)) (reserve_active objects.table name) ∙ some)

module _ {T W : Type 0} where
  -- changes make nothing active and remove nothing
  pub changes_alike : (objects : ObjectsState T W) (changes : List (Change T W)) → Alike objects.table (after_changes objects changes).table
  changes_alike objects [] = λ q. refl
  changes_alike objects (change ∷ changes) =
      λ q. changes_alike (changed objects change) changes q ∙ change_alike objects change q

-- no held object is removed
pub held_objects_stay : (T W : Type 0) → HeldObjectsStay T W
held_objects_stay T W objects (Create name object changes) id a here gone =
    absurd (both_ways _ gone (changes_alike (create_step objects name object).1 changes id
    ∙ create_grows objects name object (reserve_step objects.table name).0 id (ap is_some here)))
held_objects_stay T W objects (Remove other) id a here gone =
    taken_unheld objects.table other id (active_at objects.table other) a refl here gone
held_objects_stay T W objects (Changes changes) id a here gone =
    absurd (both_ways _ gone (changes_alike objects changes id ∙ ap is_some here))
