-- What holds of the objects and waits of a part over any moves.
use Rattle.std.specs.Prelude.{◌≡◌, ◌<◌, ◌≤◌, ◌+◌, ◌-◌, ◌^◌, ℕ, List, true, false, length, Option, Some, None, is_some}
use Rattle.std.specs.List.{AllByRecursion}
use Rattle.osal_base.specs.Limits.{IsCapacity}
use Rattle.osal_base.specs.Reply.{success}
use Rattle.osal_object.specs.declared.waits.WaitRecord.{WaitRecord}
use Rattle.osal_idtable.specs.Table.{Active, active_at}
use Rattle.osal_idtable.specs.WellFormed.{IsWellFormed}
use Rattle.osal_idtable.specs.Sound.{AtMostOne}
use Rattle.osal_object.specs.Waits.{is_of, waits_on}
use Rattle.osal_object.specs.Objects.{ObjectsState, no_objects, hold_call_step, release_call_step, caller_hold_limit}
use Rattle.osal_object.specs.Moves.{Begin, End, Move, changed, moved, after_moves, AreApart, IsAllowed, MayMove}

-- the holds of an object, if it is there
abbrev pub holds_of : {T : Type 0} → Option (Active T) → ℕ
holds_of None = 0
holds_of (Some active) = active.holds

module _ {T W : Type 0} where
  -- how often callers hold an object: its holds without the waits that stand on it
  abbrev pub caller_holds : ObjectsState T W → ℕ → Active T → ℕ
  caller_holds objects id active = active.holds - waits_on objects.waits id

  -- the waits of an object are among its holds, and the other holds are those of callers
  pub record IsHeldBy (objects : ObjectsState T W) (id : ℕ) (active : Active T) : Type 0 where
    pub waits : waits_on objects.waits id ≤ active.holds
    pub callers : caller_holds objects id active ≤ caller_hold_limit

  -- each task waits at most once, in a part with room, on active objects, which its wait holds
  pub record IsCounted (objects : ObjectsState T W) : Type 0 where
    pub room : IsCapacity objects.waits.capacity
    pub few : length objects.waits.records ≤ objects.waits.capacity
    pub once : (task : ℕ) → AtMostOne (is_of task) objects.waits.records
    pub standing : AllByRecursion (λ (wait : WaitRecord W). AreApart objects.table wait.on) objects.waits.records
    pub held : (id : ℕ) (active : Active T) → active_at objects.table id ≡ Some active → IsHeldBy objects id active

-- the holds of an object are those of callers and the open waits that stand on it, from the opening on
abbrev pub HoldsAreCounted : Type 0 → Type 0 → Type 0
HoldsAreCounted T W =
    ((kind capacity tasks : ℕ) → IsCapacity tasks → IsCounted (no_objects {T = T} {W = W} kind capacity tasks))
    × ((objects : ObjectsState T W) (move : Move T W) → IsCounted objects → MayMove objects move → IsCounted (moved objects move))

-- the holds of callers rise by an accepted hold, fall by an accepted release, and no wait changes them
pub record CallersHold (T W : Type 0) : Type 0 where
  pub hold : (objects : ObjectsState T W) (id : ℕ) (old new : Active T) → IsCounted objects → active_at objects.table id ≡ Some old → (hold_call_step objects id).0 ≡ success → active_at (hold_call_step objects id).1.table id ≡ Some new → caller_holds (hold_call_step objects id).1 id new ≡ caller_holds objects id old + 1
  pub release : (objects : ObjectsState T W) (id : ℕ) (old new : Active T) → IsCounted objects → active_at objects.table id ≡ Some old → (release_call_step objects id).0 ≡ success → active_at (release_call_step objects id).1.table id ≡ Some new → caller_holds (release_call_step objects id).1 id new + 1 ≡ caller_holds objects id old
  pub begin : (objects : ObjectsState T W) (wait : WaitRecord W) (id : ℕ) (old new : Active T) → IsCounted objects → IsAllowed objects (Begin wait) → active_at objects.table id ≡ Some old → active_at (changed objects (Begin wait)).table id ≡ Some new → caller_holds (changed objects (Begin wait)) id new ≡ caller_holds objects id old
  pub end : (objects : ObjectsState T W) (task id : ℕ) (old new : Active T) → IsCounted objects → active_at objects.table id ≡ Some old → active_at (changed objects (End task)).table id ≡ Some new → caller_holds (changed objects (End task)) id new ≡ caller_holds objects id old

-- a well-formed table stays well formed, whatever a part does
abbrev pub TablesStayWellFormed : Type 0 → Type 0 → Type 0
TablesStayWellFormed T W =
    (objects : ObjectsState T W) (move : Move T W) → IsWellFormed objects.table → IsWellFormed (moved objects move).table

-- an object that a move removes is not held
abbrev pub HeldObjectsStay : Type 0 → Type 0 → Type 0
HeldObjectsStay T W =
    (objects : ObjectsState T W) (move : Move T W) (id : ℕ) (active : Active T)
    → active_at objects.table id ≡ Some active
    → is_some (active_at (moved objects move).table id) ≡ false
    → active.holds ≡ 0

-- a move makes this identifier active
pub record Activates {T W : Type 0} (objects : ObjectsState T W) (move : Move T W) (id : ℕ) : Type 0 where
  pub before : is_some (active_at objects.table id) ≡ false
  pub after : is_some (active_at (moved objects move).table id) ≡ true

-- between two moves that make an identifier active its table's wrap count rises
abbrev pub NotActiveAgain : Type 0 → Type 0 → Type 0
NotActiveAgain T W =
    (objects : ObjectsState T W) (first : Move T W) (between : List (Move T W)) (second : Move T W) (id : ℕ)
    → Activates objects first id
    → Activates (after_moves (moved objects first) between) second id
    → (moved objects first).table.wraps < 2 ^ 64 - 1
    → (moved objects first).table.wraps < (moved (after_moves (moved objects first) between) second).table.wraps
