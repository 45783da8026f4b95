-- What a call does to the objects and waits of its part, told as one of a few outcomes.
use Rattle.std.specs.Prelude.{ℕ, List, [], map, Bool, Option, Some, None}
use Rattle.osal_base.specs.declared.status.Status.{Status}
use Rattle.osal_base.specs.declared.status.Status.TheVariants as status
use Rattle.osal_base.specs.declared.time.Moment.{Moment}
use Rattle.osal_base.specs.declared.time.Timeout.{Timeout}
use Rattle.osal_base.specs.Reply.{Replied, refusal, success, gives_bytes, goes_on, deleted, waits}
use Rattle.osal_idtable.specs.Table.{Active, active_at}
use Rattle.osal_idtable.specs.Faults.{under_name}
use Rattle.osal_object.specs.declared.waits.WaitRecord.{WaitRecord}
use Rattle.osal_object.specs.Waits.{new_wait, wait_fault, with_wait}
use Rattle.osal_object.specs.Objects.{ObjectsState, create_step, delete_step, find_reply, hold_call_step, release_call_step}
use Rattle.osal_object.specs.Waiting.{hold_each, begin_step, end_wait}
use Rattle.osal_object.specs.Moves as move
use Rattle.osal_object.specs.Moves.{after_changes}

-- what a call writes beside its reply: another object under an identifier, or a release of the waits that pass a test
pub data Write (T W : Type 0) : Type 0 where
  Put : ℕ → T → Write T W
  Mark : (WaitRecord W → Bool) → Write T W

-- what a call does: it is refused; it is under a name, or on an object, and then does something; it gives a number and
-- bytes, and writes; it lets its task go on; it finds, makes, removes, holds or releases an object, or removes the task
-- that called; or its task waits, for something, on objects, at most so long, and it writes where the wait began
pub data Outcome (T W : Type 0) : Type 0 where
  Refuse : Status → Outcome T W
  Named : List ℕ → Outcome T W → Outcome T W
  On : ℕ → (Active T → Outcome T W) → Outcome T W
  Give : ℕ → List ℕ → List (Write T W) → Outcome T W
  Go : Outcome T W
  Find : List ℕ → Outcome T W
  Make : List ℕ → T → Outcome T W
  Remove : ℕ → Outcome T W
  Leave : ℕ → Outcome T W
  Hold : ℕ → Outcome T W
  Release : ℕ → Outcome T W
  Wait : W → List ℕ → Timeout → Outcome T W
  WaitAfter : W → List ℕ → Timeout → List (Write T W) → Outcome T W

-- how a wait ends: there is none, it waits on, or it is over with a reply and writes
pub data Ending (T W : Type 0) : Type 0 where
  NoWait : Ending T W
  WaitsOn : Ending T W
  Ends : Replied → List (Write T W) → Ending T W

module _ {T W : Type 0} where
  -- a write as a change
  abbrev pub as_change : Write T W → move.Change T W
  as_change (Put id object) = move.Put id object
  as_change (Mark test) = move.Mark test

  -- the objects and waits after some writes, in order
  abbrev pub written : ObjectsState T W → List (Write T W) → ObjectsState T W
  written objects writes = after_changes objects (map as_change writes)

  -- success alone, with some writes
  abbrev pub change : List (Write T W) → Outcome T W
  change writes = Give 0 [] writes

  -- success with a number and bytes
  abbrev pub tell : ℕ → List ℕ → Outcome T W
  tell number bytes = Give number bytes []

  -- what is done with an object that is there; a call on one that is not there is refused
  abbrev pub found_then : ObjectsState T W → (Active T → Replied × ObjectsState T W) → Option (Active T) → Replied × ObjectsState T W
  found_then objects does None = (refusal status.ErrInvalidId, objects)
  found_then objects does (Some active) = does active

  -- a wait that is refused changes nothing; else it stands among the open waits, holds its objects, and the call writes
  abbrev pub waited : ObjectsState T W → WaitRecord W → List (Write T W) → Option Status → Replied × ObjectsState T W
  waited objects wait writes (Some fault) = (refusal fault, objects)
  waited objects wait writes None =
      (waits, written (record { table = hold_each objects.table wait.on; waits = with_wait objects.waits wait }) writes)

  -- what a task's call answers by its outcome, and the objects and waits after it
  abbrev pub carried_out : ObjectsState T W → ℕ → Moment → Outcome T W → Replied × ObjectsState T W
  carried_out objects task now (Refuse fault) = (refusal fault, objects)
  carried_out objects task now (Named name does) = under_name name objects (carried_out objects task now does)
  carried_out objects task now (On id does) =
      found_then objects (λ active. carried_out objects task now (does active)) (active_at objects.table id)
  carried_out objects task now (Give number bytes writes) = (gives_bytes number bytes, written objects writes)
  carried_out objects task now Go = (goes_on, objects)
  carried_out objects task now (Find name) = (find_reply objects name, objects)
  carried_out objects task now (Make name object) = create_step objects (Some name) object
  carried_out objects task now (Remove id) = delete_step objects id
  carried_out objects task now (Leave id) = (deleted, (delete_step objects id).1)
  carried_out objects task now (Hold id) = hold_call_step objects id
  carried_out objects task now (Release id) = release_call_step objects id
  carried_out objects task now (Wait what on wait) = begin_step objects (new_wait task what on wait now)
  carried_out objects task now (WaitAfter what on wait writes) =
      waited objects (new_wait task what on wait now) writes (wait_fault objects.waits task)

  -- the identifier that a call looks at first, if it looks at one
  abbrev pub looks : Outcome T W → Option ℕ
  looks (On id does) = Some id
  looks (Remove id) = Some id
  looks (Hold id) = Some id
  looks (Release id) = Some id
  looks other = None

  -- what the end of a task's wait answers, and the objects and waits after it
  abbrev pub ended_as : ObjectsState T W → ℕ → Ending T W → Replied × ObjectsState T W
  ended_as objects task NoWait = (refusal status.ErrIncorrectObjState, objects)
  ended_as objects task WaitsOn = (waits, objects)
  ended_as objects task (Ends reply writes) = (reply, end_wait (written objects writes) task)

  -- how a wait that may be open ends where its task gives it up
  abbrev pub given_up : Option (WaitRecord W) → Ending T W
  given_up None = NoWait
  given_up (Some wait) = Ends success []
