-- The open waits of a part.
use Rattle.std.specs.Prelude.{◌+◌, ◌==◌, ◌++◌, ℕ, Bool, true, false, not, List, [], ◌∷◌, map, filter, find, length, Option, Some, None, is_some, nat_lt, if◌then◌else◌}
use Rattle.std.specs.List.{list_any}
use Rattle.osal_base.specs.declared.status.Status.{Status}
use Rattle.osal_base.specs.declared.status.Status.TheVariants as status
use Rattle.osal_base.specs.declared.time.Moment.{Moment}
use Rattle.osal_base.specs.declared.time.Timeout.{Timeout}
use Rattle.osal_base.specs.Time.{deadline_of, has_come}
use Rattle.osal_object.specs.declared.waits.WaitRecord.{WaitRecord}

-- the waits, oldest first, and how many there may be
pub record WaitsState (W : Type 0) : Type 0 where
  pub records : List (WaitRecord W)
  pub capacity : ℕ

module _ {W : Type 0} where
  -- no open waits
  abbrev pub no_waits : ℕ → WaitsState W
  no_waits capacity = record { records = []; capacity = capacity }

  -- the wait of a call that waits from now on
  abbrev pub new_wait : ℕ → W → List ℕ → Timeout → Moment → WaitRecord W
  new_wait task what on wait now =
      record { task = task; what = what; on = on; deadline = deadline_of wait now; released = false }

  -- whether a wait is this task's
  abbrev pub is_of : ℕ → WaitRecord W → Bool
  is_of task wait = wait.task == task

  -- the open wait of a task, if it has one
  abbrev pub wait_of : WaitsState W → ℕ → Option (WaitRecord W)
  wait_of waits task = find (is_of task) waits.records

  -- whether a wait's deadline has come
  abbrev pub is_due : WaitRecord W → Moment → Bool
  is_due wait now = has_come wait.deadline now

  -- whether a wait stands on an object
  abbrev pub stands_on : ℕ → WaitRecord W → Bool
  stands_on id wait = list_any (λ on. on == id) wait.on

  -- how many of the waits stand on an object
  abbrev pub count_on : ℕ → List (WaitRecord W) → ℕ
  count_on id [] = 0
  count_on id (wait ∷ waits) = (if stands_on id wait then 1 else 0) + count_on id waits

  -- how many open waits stand on an object
  abbrev pub waits_on : WaitsState W → ℕ → ℕ
  waits_on waits id = count_on id waits.records

  -- why a task may not begin a wait: it waits already, or there is no room for one more
  abbrev pub wait_fault : WaitsState W → ℕ → Option Status
  wait_fault waits task =
      if is_some (wait_of waits task) then Some status.ErrIncorrectObjState
      else (if nat_lt (length waits.records) waits.capacity then None else Some status.Error)

  -- one more wait, the newest
  abbrev pub with_wait : WaitsState W → WaitRecord W → WaitsState W
  with_wait waits wait = record waits { records = waits.records ++ wait ∷ [] }

  -- without the wait of a task
  abbrev pub without_wait : WaitsState W → ℕ → WaitsState W
  without_wait waits task = record waits { records = filter (λ wait. not (is_of task wait)) waits.records }

  -- a wait that passes the test is released
  abbrev pub released_if : (WaitRecord W → Bool) → WaitRecord W → WaitRecord W
  released_if test wait = if test wait then record wait { released = true } else wait

  -- each wait that passes the test is released
  abbrev pub released_where : WaitsState W → (WaitRecord W → Bool) → WaitsState W
  released_where waits test = record waits { records = map (released_if test) waits.records }
