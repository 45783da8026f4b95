-- A call that neither holds nor releases an object leaves the holds of callers.
use Rattle.std.proofs.Common.{◌≡◌, false, ℕ, List, [], ◌∷◌, map as map_list, Option, Some, None, refl, subst, ◌∙◌}
use Rattle.std.proofs.lemmas.Bool.{both_ways}
use Rattle.osal_base.specs.declared.status.Status.{Status}
use Rattle.osal_base.specs.declared.time.Moment.{Moment}
use Rattle.osal_base.specs.declared.time.Timeout.{Timeout}
use Rattle.osal_base.specs.Name.{name_fault}
use Rattle.osal_idtable.specs.Table.{active_at}
use Rattle.osal_object.specs.declared.waits.WaitRecord.{WaitRecord}
use Rattle.osal_object.specs.Waits.{new_wait, wait_of, wait_fault}
use Rattle.osal_object.specs.Waiting.{begun, end_wait}
use Rattle.osal_object.specs.Objects.{ObjectsState}
use Rattle.osal_object.specs.Moves.{Begin, changed, AreApart}
use Rattle.osal_object.specs.Outcomes.{Write, Put, Mark, Outcome, Refuse, Named, On, Give, Go, Find, Make, Remove, Leave, Hold, Release, Wait, WaitAfter, Ending, NoWait, WaitsOn, Ends, as_change, written, waited, carried_out, ended_as}
use Rattle.osal_object.specs.ObjectLaws.{IsCounted}
use Rattle.osal_object.proofs.Activity.{Alike, change_alike, changes_alike}
use Rattle.osal_object.proofs.Balance.{AreBalanced, balanced_put, balanced_released, balanced_begun, balanced_ended}
use Rattle.osal_object.proofs.Carried.{of_found, of_named}
use Rattle.osal_io.proofs.Makes.{makes_none, makes_new, makes_less, makes_balanced, then_balanced}
use Rattle.osal_laws.proofs.Suits.{Suits}
use Rattle.osal_laws.proofs.Over.{written_counted}

module _ {T W : Type 0} where
  -- where nothing changes
  pub same_balanced : (objects : ObjectsState T W) → AreBalanced objects objects
  same_balanced objects = makes_balanced {old = objects} (makes_none refl)

  one_balanced : (objects : ObjectsState T W) (write : Write T W) → AreBalanced objects (changed objects (as_change write))
  one_balanced objects (Put id object) = balanced_put objects id object
  one_balanced objects (Mark test) = balanced_released objects test

  -- writes leave the holds of callers
  pub written_balanced : (objects : ObjectsState T W) (writes : List (Write T W)) → AreBalanced objects (written objects writes)
  written_balanced objects [] = same_balanced objects
  written_balanced objects (write ∷ writes) =
      let next = changed objects (as_change write) in
      then_balanced objects next (written next writes) (λ q some. change_alike objects (as_change write) q ∙ some) (one_balanced objects write) (written_balanced next writes)

  module _ (objects : ObjectsState T W) (counted : IsCounted objects) (task : ℕ) (now : Moment) where
    waited_balanced : (wait : WaitRecord W) (writes : List (Write T W)) (fault : Option Status) → wait_fault objects.waits wait.task ≡ fault → AreApart objects.table wait.on → AreBalanced objects (waited objects wait writes fault).1
    waited_balanced wait writes (Some fault) is apart = same_balanced objects
    waited_balanced wait writes None is apart =
        let start = (begun objects wait None).1 in
        let alike : Alike objects.table start.table = subst (λ o. Alike objects.table (begun objects wait o).1.table) is (change_alike objects (Begin wait)) in
        then_balanced objects start (written start writes) (λ q some. alike q ∙ some) (balanced_begun objects counted wait apart None is) (written_balanced start writes)

    -- an outcome that neither holds nor releases leaves the holds of callers
    pub quiet_balanced : (wait : Timeout) (outcome : Outcome T W) → Suits false objects wait outcome → AreBalanced objects (carried_out objects task now outcome).1
    quiet_balanced wait (Refuse fault) suits = same_balanced objects
    quiet_balanced wait (Named name does) suits =
        of_named (λ s. AreBalanced objects s.1) objects (carried_out objects task now does) (name_fault name) (λ by. same_balanced objects) (quiet_balanced wait does suits)
    quiet_balanced wait (On id does) suits =
        of_found (λ s. AreBalanced objects s.1) objects _ (active_at objects.table id) (same_balanced objects) (λ active at. quiet_balanced wait (does active) (suits active at))
    quiet_balanced wait (Give number bytes writes) suits = written_balanced objects writes
    quiet_balanced wait Go suits = same_balanced objects
    quiet_balanced wait (Find name) suits = same_balanced objects
    quiet_balanced wait (Make name object) suits =
        makes_balanced (makes_new objects (Some name) object)
    quiet_balanced wait (Remove id) suits = makes_balanced (makes_less objects id)
    quiet_balanced wait (Leave id) suits = makes_balanced (makes_less objects id)
    quiet_balanced wait (Hold id) suits = absurd (both_ways false refl suits)
    quiet_balanced wait (Release id) suits = absurd (both_ways false refl suits)
    quiet_balanced wait (Wait what on timeout) suits =
        balanced_begun objects counted (new_wait task what on timeout now) suits.2 (wait_fault objects.waits task) refl
    quiet_balanced wait (WaitAfter what on timeout writes) suits =
        waited_balanced (new_wait task what on timeout now) writes (wait_fault objects.waits task) refl suits.2

    -- and so does the end of a wait
    pub ended_balanced : (ending : Ending T W) → AreBalanced objects (ended_as objects task ending).1
    ended_balanced NoWait = same_balanced objects
    ended_balanced WaitsOn = same_balanced objects
    ended_balanced (Ends reply writes) =
        let last = written objects writes in
        then_balanced objects last (end_wait last task) (λ q some. changes_alike objects (map_list as_change writes) q ∙ some) (written_balanced objects writes)
        (balanced_ended last (written_counted task objects writes counted) task (wait_of last.waits task) refl)
