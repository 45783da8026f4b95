-- Changes that hold nothing leave an object without holds where it had none.
use Rattle.std.proofs.Common.{◌≡◌, ◌≤◌, ◌-◌, ℕ, List, [], ◌∷◌, nat_lt, Option, Some, None, Result, refl, sym, ap, ◌∙◌, inl, inr, arith}
use Rattle.std.proofs.lemmas.Bool.{cases_eq}
use Rattle.osal_base.specs.Reply.{Replied}
use Rattle.osal_idtable.specs.declared.table.IdFault.{IdFault}
use Rattle.osal_idtable.specs.Table.{Active, TableState, active_at, with_active, replaced}
use Rattle.osal_idtable.specs.Holds.{released, release_step}
use Rattle.osal_idtable.proofs.Holding.{either}
use Rattle.osal_idtable.proofs.WellFormed.{put_there}
use Rattle.osal_object.specs.declared.waits.WaitRecord.{WaitRecord}
use Rattle.osal_object.specs.Waits.{wait_of, waits_on}
use Rattle.osal_object.specs.Objects.{ObjectsState, released_by_caller}
use Rattle.osal_object.specs.Waiting.{release_each, ended}
use Rattle.osal_object.specs.Moves.{Change, Put, Hold, Release, Begin, End, Mark, changed, after_changes, HoldsNone, HoldNone}
use Rattle.osal_object.proofs.HeldEach.{write_here}

module _ {T : Type 0} (q : ℕ) where
  -- the object under the identifier is not held, if it is there
  abbrev pub IsUnheld : TableState T → Type 0
  IsUnheld table = (a : Active T) → active_at table q ≡ Some a → a.holds ≡ 0

  write_unheld : (table : TableState T) (id : ℕ) (a v : Active T) → active_at table id ≡ Some a → v.holds ≤ a.holds → IsUnheld table → IsUnheld (with_active table id v)
  write_unheld table id a v is fewer unheld = λ b now.
      elim (cases_eq id q) [
        | inl same ↦
            let zero = unheld a (ap (active_at table) (sym same) ∙ is) in
            let new = ap (λ (x : Active T). x.holds) (write_here table id q v b same now) in
            omega arith
        | inr ne ↦ unheld b (sym (put_there table.active id v q (λ e. ne (sym e))) ∙ now)
      ]

  put_unheld : (table : TableState T) (id : ℕ) (object : T) (o : Option (Active T)) → active_at table id ≡ o → IsUnheld table → IsUnheld (replaced table id object o)
  put_unheld table id object None is unheld = unheld
  put_unheld table id object (Some a) is unheld =
      write_unheld table id a (record a { object = object }) is (omega arith) unheld

  release_unheld : (table : TableState T) (id : ℕ) (o : Option (Active T)) → active_at table id ≡ o → IsUnheld table → IsUnheld (released table id o).1
  release_unheld table id None is unheld = unheld
  release_unheld table id (Some a) is unheld =
      either (λ (p : Result (Unit {0}) IdFault × TableState T). IsUnheld p.1) (nat_lt 0 a.holds) _ _
      (write_unheld table id a (record a { holds = a.holds - 1 }) is (omega arith) unheld)
      unheld

  releases_unheld : (table : TableState T) (ids : List ℕ) → IsUnheld table → IsUnheld (release_each table ids)
  releases_unheld table [] unheld = unheld
  releases_unheld table (id ∷ ids) unheld =
      releases_unheld (release_step table id).1 ids (release_unheld table id (active_at table id) refl unheld)

module _ {T W : Type 0} (q : ℕ) where
  returned_unheld : (objects : ObjectsState T W) (id : ℕ) (o : Option (Active T)) → active_at objects.table id ≡ o → IsUnheld q objects.table → IsUnheld q (released_by_caller objects id o).1.table
  returned_unheld objects id None is unheld = unheld
  returned_unheld objects id (Some a) is unheld =
      either (λ (p : Replied × ObjectsState T W). IsUnheld q p.1.table) (nat_lt (waits_on objects.waits id) a.holds) _ _
      (write_unheld q objects.table id a (record a { holds = a.holds - 1 }) is (omega arith) unheld)
      unheld

  ended_unheld : (objects : ObjectsState T W) (task : ℕ) (o : Option (WaitRecord W)) → IsUnheld q objects.table → IsUnheld q (ended objects task o).table
  ended_unheld objects task None unheld = unheld
  ended_unheld objects task (Some wait) unheld = releases_unheld q objects.table wait.on unheld

  change_unheld : (objects : ObjectsState T W) (change : Change T W) → HoldsNone change → IsUnheld q objects.table → IsUnheld q (changed objects change).table
  change_unheld objects (Put id object) holds unheld = put_unheld q objects.table id object (active_at objects.table id) refl unheld
  change_unheld objects (Hold id) holds unheld = absurd holds
  change_unheld objects (Release id) holds unheld = returned_unheld objects id (active_at objects.table id) refl unheld
  change_unheld objects (Begin wait) holds unheld = absurd holds
  change_unheld objects (End task) holds unheld = ended_unheld objects task (wait_of objects.waits task) unheld
  change_unheld objects (Mark test) holds unheld = unheld

  -- an object that is not held is not after changes that hold nothing
  pub changes_unheld : (objects : ObjectsState T W) (changes : List (Change T W)) → HoldNone changes → IsUnheld q objects.table → IsUnheld q (after_changes objects changes).table
  changes_unheld objects [] hold unheld = unheld
  changes_unheld objects (change ∷ changes) hold unheld =
      changes_unheld (changed objects change) changes hold.1 (change_unheld objects change hold.0 unheld)
