-- What holds of each object of a kind, where each call makes and puts only such objects.
use Rattle.std.proofs.Common.{◌≡◌, ℕ, List, [], ◌∷◌, Option, Some, None, sym, ap, ◌∙◌}
use Rattle.osal_base.specs.declared.status.Status.{Status}
use Rattle.osal_base.specs.declared.time.Moment.{Moment}
use Rattle.osal_base.specs.Name.{name_fault}
use Rattle.osal_idtable.specs.Table.{Active, TableState, active_at}
use Rattle.osal_object.specs.declared.waits.WaitRecord.{WaitRecord}
use Rattle.osal_object.specs.Waits.{new_wait, wait_of, wait_fault}
use Rattle.osal_object.specs.Waiting.{begun, begin_step, end_wait}
use Rattle.osal_object.specs.Objects.{ObjectsState, with_value}
use Rattle.osal_object.specs.Moves.{changed}
use Rattle.osal_object.specs.Outcomes.{Write, Put, Mark, Outcome, Refuse, Named, On, Give, Go, Find, Make, Remove, Leave, Hold, Release, Wait, WaitAfter, Ending, NoWait, WaitsOn, Ends, as_change, written, waited, carried_out, ended_as, given_up}
use Rattle.osal_object.proofs.Carried.{of_found, of_named}
use Rattle.osal_object.proofs.SameObjects.{SameObjects, object_of, begin_same, end_same}
use Rattle.osal_time.proofs.Each.{Each, of_object, each_put, each_create, each_delete, each_hold, each_release}
use Rattle.osal_call.specs.declared.call.Call.{Call}
use Rattle.osal_laws.proofs.Known.{Known, of_call, by_outcome, by_ending, by_giving_up}

module _ {T : Type 0} (P : T → Type 0) where
  -- each object of a table is such
  abbrev pub AllAre : TableState T → Type 0
  AllAre table = Each (λ id object. P object) table.active

  -- what holds of the object of what stands under each identifier
  pub all_of : (table : TableState T) → ((id : ℕ) (active : Active T) → active_at table id ≡ Some active → P active.object) → AllAre table
  all_of table all id object is = of_object P (active_at table id) object (λ active at. all id active at) is

  -- and so the other way round
  pub each_of : (table : TableState T) → AllAre table → (id : ℕ) (active : Active T) → active_at table id ≡ Some active → P active.object
  each_of table all id active at = all id active.object (ap object_of at)

  all_same : (old new : TableState T) → SameObjects old new → AllAre old → AllAre new
  all_same old new same all id object is = all id object (sym (same id) ∙ is)

  module _ {W : Type 0} where
    -- each object that is put is such
    abbrev pub ArePut : List (Write T W) → Type 0
    ArePut [] = Unit {0}
    ArePut (Put id object ∷ writes) = P object × ArePut writes
    ArePut (Mark test ∷ writes) = ArePut writes

    -- each object that an outcome makes or puts is such, where those that are there are
    abbrev pub Gives : Outcome T W → Type 0
    Gives (Make name object) = P object
    Gives (Named name does) = Gives does
    Gives (On id does) = (active : Active T) → P active.object → Gives (does active)
    Gives (Give number bytes writes) = ArePut writes
    Gives (WaitAfter what on timeout writes) = ArePut writes
    Gives other = Unit {0}

    -- and each that an ending puts
    abbrev pub GivesLast : Ending T W → Type 0
    GivesLast (Ends reply writes) = ArePut writes
    GivesLast other = Unit {0}

    all_put : (objects : ObjectsState T W) (writes : List (Write T W)) → AllAre objects.table → ArePut writes → AllAre (written objects writes).table
    all_put objects [] all are = all
    all_put objects (Put id object ∷ writes) all are =
        all_put (with_value objects id object) writes (each_put (λ id object. P object) objects id object (λ other old ne. all other old) are.0) are.1
    all_put objects (Mark test ∷ writes) all are = all_put (changed objects (as_change (Mark test))) writes all are

    module _ (objects : ObjectsState T W) (task : ℕ) (now : Moment) (all : AllAre objects.table) where
      all_waited : (wait : WaitRecord W) (writes : List (Write T W)) (fault : Option Status) → ArePut writes → AllAre (waited objects wait writes fault).1.table
      all_waited wait writes (Some fault) are = all
      all_waited wait writes None are =
          all_put (begun objects wait None).1 writes (all_same objects.table (begun objects wait None).1.table (begin_same objects wait None) all) are

      all_after : (outcome : Outcome T W) → Gives outcome → AllAre (carried_out objects task now outcome).1.table
      all_after (Refuse fault) gives = all
      all_after (Named name does) gives =
          of_named (λ s. AllAre s.1.table) objects (carried_out objects task now does) (name_fault name) (λ by. all) (all_after does gives)
      all_after (On id does) gives =
          of_found (λ s. AllAre s.1.table) objects _ (active_at objects.table id) all (λ active at. all_after (does active) (gives active (each_of objects.table all id active at)))
      all_after (Give number bytes writes) gives = all_put objects writes all gives
      all_after Go gives = all
      all_after (Find name) gives = all
      all_after (Make name object) gives = each_create (λ id object. P object) objects name object all (λ id. gives)
      all_after (Remove id) gives = each_delete (λ id object. P object) objects id all
      all_after (Leave id) gives = each_delete (λ id object. P object) objects id all
      all_after (Hold id) gives = each_hold (λ id object. P object) objects id all
      all_after (Release id) gives = each_release (λ id object. P object) objects id all
      all_after (Wait what on timeout) gives =
          all_same objects.table (begin_step objects (new_wait task what on timeout now)).1.table (begin_same objects (new_wait task what on timeout now) (wait_fault objects.waits task)) all
      all_after (WaitAfter what on timeout writes) gives =
          all_waited (new_wait task what on timeout now) writes (wait_fault objects.waits task) gives

      all_ended : (ending : Ending T W) → GivesLast ending → AllAre (ended_as objects task ending).1.table
      all_ended NoWait gives = all
      all_ended WaitsOn gives = all
      all_ended (Ends reply writes) gives =
          let now_put = written objects writes in
          all_same now_put.table (end_wait now_put task).table (end_same now_put task (wait_of now_put.waits task)) (all_put objects writes all gives)

    given_up_gives : (found : Option (WaitRecord W)) → GivesLast (given_up found)
    given_up_gives None = tt
    given_up_gives (Some wait) = tt

    -- what each call and each end of a wait of a part keeps to holds after each
    pub known_all : {S : Type 0} {number : ℕ} {own : _} {objects : S → ObjectsState T W} {outcome : S → ℕ → Call → Outcome T W} {ending : S → ℕ → Moment → Ending T W} {step : _} → Known number own objects outcome ending step → (old : S) (task : ℕ) (now : Moment) → AllAre (objects old).table → ((made : Call) → Gives (outcome old task made)) → GivesLast (ending old task now) → (made : Call) → AllAre (objects (step old task now made).1).table
    known_all {objects = objects} {outcome = outcome} {ending = ending} {step = step} known old task now all calls ends =
        of_call (λ made. AllAre (objects (step old task now made).1).table)
        (λ made other. by_outcome known old task now (λ s. AllAre s.1.table) made other (all_after (objects old) task now all (outcome old task made) (calls made)))
        (λ part. by_ending known old task now (λ s. AllAre s.1.table) part (all_ended (objects old) task now all (ending old task now) ends) all)
        (λ part. by_giving_up known old task now (λ s. AllAre s.1.table) part (all_ended (objects old) task now all (given_up (wait_of (objects old).waits task)) (given_up_gives (wait_of (objects old).waits task))) all)
