-- Which outcomes suit a call, by how long it may wait and by whether it is a hold or a release.
use Rattle.std.proofs.Common.{◌≡◌, Bool, true, false, Some}
use Rattle.osal_base.specs.declared.time.Timeout.{Timeout}
use Rattle.osal_base.specs.Time.{is_check}
use Rattle.osal_idtable.specs.Table.{Active, active_at}
use Rattle.osal_object.specs.Objects.{ObjectsState}
use Rattle.osal_object.specs.Moves.{AreApart}
use Rattle.osal_object.specs.Outcomes.{Outcome, Named, On, Hold, Release, Wait, WaitAfter}
use Rattle.osal_object.proofs.Carried.{Fits}
pub use Rattle.osal_io.proofs.Makes.{is_holding}

module _ {T W : Type 0} where
  -- an outcome waits only so long, on active objects, on each once, and holds or releases only where its call does
  abbrev pub Suits : Bool → ObjectsState T W → Timeout → Outcome T W → Type 0
  Suits holding objects wait (Wait what on timeout) = (timeout ≡ wait) × (is_check wait ≡ false) × AreApart objects.table on
  Suits holding objects wait (WaitAfter what on timeout writes) =
      (timeout ≡ wait) × (is_check wait ≡ false) × AreApart objects.table on
  Suits holding objects wait (On id does) =
      (active : Active T) → active_at objects.table id ≡ Some active → Suits holding objects wait (does active)
  Suits holding objects wait (Named name does) = Suits holding objects wait does
  Suits holding objects wait (Hold id) = holding ≡ true
  Suits holding objects wait (Release id) = holding ≡ true
  Suits holding objects wait other = Unit {0}

  -- such an outcome fits the call
  pub suits_fit : (holding : Bool) (objects : ObjectsState T W) (wait : Timeout) (outcome : Outcome T W) → Suits holding objects wait outcome → Fits objects wait outcome
  suits_fit holding objects wait (Wait what on timeout) suits = suits
  suits_fit holding objects wait (WaitAfter what on timeout writes) suits = suits
  suits_fit holding objects wait (On id does) suits =
      λ active at. suits_fit holding objects wait (does active) (suits active at)
  suits_fit holding objects wait (Named name does) suits = suits_fit holding objects wait does suits
  suits_fit holding objects wait _ suits = tt
