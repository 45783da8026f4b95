-- How the lists that keep the open waits belong together.
use Rattle.std.specs.Prelude.{◌≡◌, ◌+◌, ◌==◌, ℕ, List, map, length}
use Rattle.osal_object.specs.declared.waits.WaitRecord.{WaitRecord}
use Rattle.osal_idtable.specs.Sound.{AtMostOne}

-- the tasks of some waits, in the order of the waits
abbrev pub tasks_of : {W : Type 0} → List (WaitRecord W) → List ℕ
tasks_of waits = map (λ wait. wait.task) waits

-- the tasks are those of the waits, none stands twice, and each place is a wait's or free
pub record AreOrdered {W : Type 0} (tasks : List ℕ) (waits : List (WaitRecord W)) (free capacity : ℕ) : Type 0 where
  pub turns : tasks ≡ tasks_of waits
  pub once : (task : ℕ) → AtMostOne (λ other. other == task) tasks
  pub places : length tasks + free ≡ capacity
