-- What holds of each object of a table, and which steps keep it.
use Rattle.std.proofs.Common.{◌≡◌, ℕ, List, Option, Some, None, Result, Ok, Err, refl, sym, ap, subst, ◌∙◌, inl, inr}
use Rattle.std.specs.Ordering.{nat_cmp}
use Rattle.std.specs.FinMap as map
use Rattle.std.proofs.lemmas.Bool.{cases_eq}
use Rattle.osal_idtable.specs.declared.table.IdFault.{IdFault}
use Rattle.osal_idtable.specs.declared.table.ReserveFault.{ReserveFault}
use Rattle.osal_idtable.specs.Table.{Active, TableState, Reserved, active_at, replaced}
use Rattle.osal_idtable.specs.Steps.{reserve_step, settle, take_out, unheld}
use Rattle.osal_object.specs.Objects.{ObjectsState, with_value, created, create_step, delete_step, hold_call_step, release_call_step}
use Rattle.osal_idtable.proofs.WellFormed.{put_here, put_there, gone_here, gone_there}
use Rattle.osal_object.proofs.Activity.{reserve_active}
use Rattle.osal_object.proofs.SameObjects.{object_of, object_at, SameObjects, caller_hold_same, caller_release_same}

-- what holds of what stands under an identifier holds of its object
pub of_object : {T : Type 0} (P : T → Type 0) (found : Option (Active T)) (object : T) → ((active : Active T) → found ≡ Some active → P active.object) → object_of found ≡ Some object → P object
of_object P None object all is = cc
of_object P (Some active) object all is =
    let one : active.object ≡ object = cc in subst P one (all active refl)

module _ {T : Type 0} (P : ℕ → T → Type 0) where
  -- it holds of each object and its identifier
  abbrev pub Each : map.FinMap nat_cmp (Active T) → Type 0
  Each objects = (id : ℕ) (object : T) → object_of (map.get objects id) ≡ Some object → P id object

  -- it holds of each object but the one of an identifier
  abbrev pub EachOther : ℕ → map.FinMap nat_cmp (Active T) → Type 0
  EachOther id objects = (other : ℕ) (object : T) → (other ≡ id → ⊥) → object_of (map.get objects other) ≡ Some object → P other object

  each_written : (objects : map.FinMap nat_cmp (Active T)) (id : ℕ) (new : Active T) → EachOther id objects → P id new.object → Each (map.insert objects id new)
  each_written objects id new others here other object is =
      elim (cases_eq other id) [
        | inl same ↦
            let found : Some new.object ≡ Some object = sym (ap (λ k. object_of (map.get (map.insert objects id new) k)) same ∙ ap object_of (put_here objects id new)) ∙ is in
            let one : new.object ≡ object = cc in
            subst (λ k. P k object) (sym same) (subst (P id) one here)
        | inr ne ↦ others other object ne (sym (ap object_of (put_there objects id new other ne)) ∙ is)
      ]

  each_replaced : (table : TableState T) (id : ℕ) (object : T) (found : Option (Active T)) → active_at table id ≡ found → EachOther id table.active → P id object → Each (replaced table id object found).active
  each_replaced table id object None is others here =
      λ other old there. others other old
      (λ same. let found : None ≡ Some old = sym (ap (object_at table) same ∙ ap object_of is) ∙ there in cc)
      there
  each_replaced table id object (Some active) is others here =
      each_written table.active id (record active { object = object }) others here

  each_removed : (objects : map.FinMap nat_cmp (Active T)) (id : ℕ) → EachOther id objects → Each (map.remove objects id)
  each_removed objects id others other object is =
      elim (cases_eq other id) [
        | inl same ↦
            let found : None ≡ Some object = sym (ap (λ k. object_of (map.get (map.remove objects id) k)) same ∙ ap object_of (gone_here objects id)) ∙ is in cc
        | inr ne ↦ others other object ne (sym (ap object_of (gone_there objects id other ne)) ∙ is)
      ]

  each_taken : (table : TableState T) (id : ℕ) (r : Result T IdFault) → Each table.active → Each (take_out table id r).1.active
  each_taken table id (Err fault) all = all
  each_taken table id (Ok object) all = each_removed table.active id (λ other old ne. all other old)

  each_settled : (table : TableState T) (id : ℕ) (name : Option (Option (List ℕ))) (object : T) → Each table.active → P id object → Each (settle table id name (Some object)).active
  each_settled table id None object all here = all
  each_settled table id (Some name) object all here =
      each_written table.active id (record { name = name; holds = 0; object = object }) (λ other old ne. all other old) here

  each_same : (old new : TableState T) → SameObjects old new → Each old.active → Each new.active
  each_same old new same all id object is = all id object (sym (same id) ∙ is)

  module _ {W : Type 0} (objects : ObjectsState T W) where
    -- another object in the place of one
    pub each_put : (id : ℕ) (object : T) → EachOther id objects.table.active → P id object → Each (with_value objects id object).table.active
    each_put id object = each_replaced objects.table id object (active_at objects.table id) refl

    -- a removal
    pub each_delete : (id : ℕ) → Each objects.table.active → Each (delete_step objects id).1.table.active
    each_delete id = each_taken objects.table id (unheld (active_at objects.table id))

    -- an object that is taken out, where it holds of the others
    pub each_left : (id : ℕ) (object : T) → EachOther id objects.table.active → Each (take_out objects.table id (Ok object)).1.active
    each_left id object others = each_removed objects.table.active id others

    -- a new object under the identifier that was reserved for it
    pub each_made : (name : List ℕ) (object : T) (reserved : Reserved) → Each objects.table.active → P reserved.id object → Each (created objects object (Ok reserved) (reserve_step objects.table (Some name)).1).1.table.active
    each_made name object reserved all here =
        let table = (reserve_step objects.table (Some name)).1 in
        each_settled table reserved.id (map.get table.reserved reserved.id) object
        (subst Each (sym (reserve_active objects.table (Some name))) all) here

    each_created : (name : List ℕ) (object : T) (r : Result Reserved ReserveFault) → Each objects.table.active → ((id : ℕ) → P id object) → Each (created objects object r (reserve_step objects.table (Some name)).1).1.table.active
    each_created name object (Err fault) all here = all
    each_created name object (Ok reserved) all here = each_made name object reserved all (here reserved.id)

    -- a new object
    pub each_create : (name : List ℕ) (object : T) → Each objects.table.active → ((id : ℕ) → P id object) → Each (create_step objects (Some name) object).1.table.active
    each_create name object = each_created name object (reserve_step objects.table (Some name)).0

    -- a hold
    pub each_hold : (id : ℕ) → Each objects.table.active → Each (hold_call_step objects id).1.table.active
    each_hold id =
        each_same objects.table (hold_call_step objects id).1.table
        (caller_hold_same objects id (active_at objects.table id) refl)

    -- a hold that is given back
    pub each_release : (id : ℕ) → Each objects.table.active → Each (release_call_step objects id).1.table.active
    each_release id =
        each_same objects.table (release_call_step objects id).1.table
        (caller_release_same objects id (active_at objects.table id) refl)
