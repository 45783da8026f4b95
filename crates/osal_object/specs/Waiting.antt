-- How a wait begins, is released, and ends: while it is open it holds what it stands on.
use Rattle.std.specs.Prelude.{ℕ, List, [], ◌∷◌, Bool, Option, Some, None}
use Rattle.osal_base.specs.declared.status.Status.{Status}
use Rattle.osal_base.specs.declared.status.Status.TheVariants as status
use Rattle.osal_base.specs.Reply.{Replied, refusal, success, waits}
use Rattle.osal_object.specs.declared.waits.WaitRecord.{WaitRecord}
use Rattle.osal_idtable.specs.Table.{TableState}
use Rattle.osal_idtable.specs.Holds.{hold_step, release_step}
use Rattle.osal_object.specs.Waits.{wait_of, wait_fault, with_wait, without_wait, released_where}
use Rattle.osal_object.specs.Objects.{ObjectsState}

module _ {T : Type 0} where
  -- the table with one hold more of each of the objects
  abbrev pub hold_each : TableState T → List ℕ → TableState T
  hold_each table [] = table
  hold_each table (id ∷ ids) = hold_each (hold_step table id).1 ids

  -- the table with one hold less of each of the objects
  abbrev pub release_each : TableState T → List ℕ → TableState T
  release_each table [] = table
  release_each table (id ∷ ids) = release_each (release_step table id).1 ids

module _ {T W : Type 0} where
  -- the wait is refused, or stands among the open waits and holds its objects
  abbrev pub begun : ObjectsState T W → WaitRecord W → Option Status → Replied × ObjectsState T W
  begun objects wait (Some fault) = (refusal fault, objects)
  begun objects wait None =
      (waits, record { table = hold_each objects.table wait.on; waits = with_wait objects.waits wait })

  -- a call waits: not where its task waits already, nor where there is no room for one more wait
  abbrev pub begin_step : ObjectsState T W → WaitRecord W → Replied × ObjectsState T W
  begin_step objects wait = begun objects wait (wait_fault objects.waits wait.task)

  -- a wait that is there is no longer open, and holds nothing any more
  abbrev pub ended : ObjectsState T W → ℕ → Option (WaitRecord W) → ObjectsState T W
  ended objects task None = objects
  ended objects task (Some wait) =
      record { table = release_each objects.table wait.on; waits = without_wait objects.waits task }

  -- the open wait of a task ends
  abbrev pub end_wait : ObjectsState T W → ℕ → ObjectsState T W
  end_wait objects task = ended objects task (wait_of objects.waits task)

  -- a wait that is there is given up
  abbrev pub abandoned : ObjectsState T W → ℕ → Option (WaitRecord W) → Replied × ObjectsState T W
  abandoned objects task None = (refusal status.ErrIncorrectObjState, objects)
  abandoned objects task (Some wait) = (success, end_wait objects task)

  -- a task gives its open wait up
  abbrev pub abandon_step : ObjectsState T W → ℕ → Replied × ObjectsState T W
  abandon_step objects task = abandoned objects task (wait_of objects.waits task)

  -- each open wait that passes the test is released: it is ready from now on
  abbrev pub release_waits : ObjectsState T W → (WaitRecord W → Bool) → ObjectsState T W
  release_waits objects test = record objects { waits = released_where objects.waits test }
