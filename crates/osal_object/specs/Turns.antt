-- The turn of a task among the open waits.
use Rattle.std.specs.Prelude.{◌≡◌, ◌<◌, ℕ, Some, length}
use Rattle.std.specs.List.{slice_get}
use Rattle.osal_object.specs.Waits.{WaitsState, wait_of}
use Rattle.osal_object.specs.Order.{tasks_of}

-- the wait of a task has this turn, the oldest wait the turn 0
pub record IsTurn {W : Type 0} (waits : WaitsState W) (task turn : ℕ) : Type 0 where
  pub within : turn < length waits.records
  pub own : slice_get (tasks_of waits.records) turn ≡ Some task
  pub found : slice_get waits.records turn ≡ wait_of waits task
