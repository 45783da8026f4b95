-- What holds of every history of the machine.
use Rattle.std.specs.Prelude.{◌≡◌, ◌≢◌, ◌<◌, ◌≤◌, ◌-◌, ◌*◌, ◌^◌, ◌++◌, ℕ, List, [], ◌∷◌, Bool, true, false, Some, None, is_some, length, min, int_lt, pos}
use Rattle.osal_base.specs.declared.limits.Limits.{Limits}
use Rattle.osal_base.specs.declared.reply.Answer.{Answer}
use Rattle.osal_base.specs.declared.reply.Answer.TheVariants as answer
use Rattle.osal_base.specs.declared.status.Status.TheVariants as status
use Rattle.osal_base.specs.declared.time.Moment.{Moment}
use Rattle.osal_base.specs.Limits.{Fits}
use Rattle.osal_base.specs.Reply.{reply_of, refusal, deleted, is_waits}
use Rattle.osal_idtable.specs.Table.{Active, active_at}
use Rattle.osal_idtable.specs.WellFormed.{IsWellFormed}
use Rattle.osal_object.specs.Objects.{ObjectsState}
use Rattle.osal_object.specs.ObjectLaws.{IsCounted, holds_of}
use Rattle.osal_task.specs.declared.part.Task.{Task}
use Rattle.osal_task.specs.Tasks.{task_at}
use Rattle.osal_call.specs.Firing.{timer_limit}
use Rattle.osal_time.specs.Time.{timebase_at, timer_at}
use Rattle.osal_time.specs.Attachment.{AreAttached}
use Rattle.osal_io.specs.Io.{stream_at}
use Rattle.osal_call.specs.declared.call.Call.{Call}
use Rattle.osal_call.specs.declared.call.Call.TheVariants as call
use Rattle.osal_call.specs.declared.call.Entry.{Entry}
use Rattle.osal_call.specs.Signature.{Subject, Table, signature, subject_of, part_of, part_of_id, part_of_table, is_refused_before, is_wait_end}
use Rattle.osal_call.specs.Signature as what
use Rattle.osal_machine.specs.Parts.{PartState, Time, Io, on_objects, is_active_in}
use Rattle.osal_machine.specs.Step.{MachineState, part_in, step, is_active}
use Rattle.osal_machine.specs.OpenWaits.{has_wait}
use Rattle.osal_machine.specs.History.{IsLegal, replay, entries_of_part}

-- whether an identifier is active in a table of a part; a part of one table has no other
abbrev pub is_among : PartState → Table → ℕ → Bool
is_among part what.OfType id = is_active_in part id
is_among (Time time) what.Timebases id = is_some (timebase_at time id)
is_among (Time time) what.Timers id = is_some (timer_at time id)
is_among (Io io) what.Streams id = is_some (stream_at io id)
is_among (Io io) what.Directories id = is_some (active_at io.files.directories.table id)
is_among part table id = is_active_in part id

-- whether an identifier is active in a table
abbrev pub is_active_among : MachineState → Table → ℕ → Bool
is_active_among state table id = is_among (part_in (part_of_table table id) state) table id

-- whether the object that a call of a task is on is there; a call on none needs none
abbrev pub is_there : MachineState → ℕ → Subject → Bool
is_there state task what.Nothing = true
is_there state task what.Caller = is_some (task_at state.tasks task)
is_there state task (what.Object table id) = is_active_among state table id

-- an entry on an identifier that is not active is refused by that, where nothing refuses it before
abbrev pub StaleIdentifiersAreRefused : Type 0
StaleIdentifiersAreRefused =
    (limits : Limits) (before : List Entry) (entry : Entry)
    → IsLegal limits (before ++ entry ∷ [])
    → is_there (replay limits before) entry.task (signature entry.call).subject ≡ false
    → is_refused_before entry.call ≡ false
    → reply_of entry.reply ≡ refusal status.ErrInvalidId

-- an entry on an identifier that is not active, by the type that it has, is refused by that, where nothing refuses it
-- before
abbrev pub InactiveIdentifiersAreRefused : Type 0
InactiveIdentifiersAreRefused =
    (limits : Limits) (before : List Entry) (entry : Entry) (id : ℕ)
    → Fits limits
    → IsLegal limits (before ++ entry ∷ [])
    → subject_of entry.task entry.call ≡ Some id
    → is_active (replay limits before) id ≡ false
    → is_refused_before entry.call ≡ false
    → reply_of entry.reply ≡ refusal status.ErrInvalidId

-- the wrap count of an identifier's table of objects in a part
abbrev pub wraps_in : PartState → ℕ → ℕ
wraps_in part id = on_objects (λ T W objects. objects.table.wraps) 0 part id

-- the wrap count of an identifier's type
abbrev pub wraps_of : MachineState → ℕ → ℕ
wraps_of state id = wraps_in (part_in (part_of_id id) state) id

-- an entry after some others makes an identifier active
pub record MakesActive (limits : Limits) (before : List Entry) (entry : Entry) (id : ℕ) : Type 0 where
  pub was : is_active (replay limits before) id ≡ false
  pub is : is_active (replay limits (before ++ entry ∷ [])) id ≡ true

-- between two entries that make the same identifier active the wrap count of its type rises
abbrev pub WrapCountRises : Type 0
WrapCountRises =
    (limits : Limits) (before : List Entry) (first : Entry) (between : List Entry) (second : Entry) (id : ℕ)
    → MakesActive limits before first id
    → MakesActive limits (before ++ first ∷ between) second id
    → wraps_of (replay limits (before ++ first ∷ [])) id < 2 ^ 64 - 1
    → wraps_of (replay limits (before ++ first ∷ [])) id < wraps_of (replay limits ((before ++ first ∷ between) ++ second ∷ [])) id

-- the holds of an identifier in a part
abbrev pub holds_in : PartState → ℕ → ℕ
holds_in part id = on_objects (λ T W objects. holds_of (active_at objects.table id)) 0 part id

-- an entry that makes an identifier not active found no holds on it
abbrev pub HeldObjectsAreKept : Type 0
HeldObjectsAreKept =
    (limits : Limits) (before : List Entry) (entry : Entry) (id : ℕ)
    → is_active (replay limits before) id ≡ true
    → is_active (replay limits (before ++ entry ∷ [])) id ≡ false
    → holds_in (part_in (part_of_id id) (replay limits before)) id ≡ 0

-- whether an answer is a code below 0
abbrev pub is_below_zero : Answer → Bool
is_below_zero (answer.Code code) = int_lt code (pos 0)
is_below_zero other = false

-- a call that answers a code below 0 changes nothing; the end of a wait is no such call, since a wait that is due ends
-- with a code
abbrev pub RefusedCallsChangeNothing : Type 0
RefusedCallsChangeNothing =
    (state : MachineState) (task : ℕ) (now : Moment) (made : Call)
    → is_wait_end made ≡ false
    → is_below_zero (step state task now made).0.answer ≡ true
    → (step state task now made).1 ≡ state

-- the end of a wait that waits on changes nothing
abbrev pub EndsThatWaitChangeNothing : Type 0
EndsThatWaitChangeNothing =
    (state : MachineState) (task : ℕ) (now : Moment) (part : ℕ)
    → is_waits (step state task now (call.WaitEnd part)).0.answer ≡ true
    → (step state task now (call.WaitEnd part)).1 ≡ state

-- the end of a wait in a part where the task has none is refused and changes nothing, whatever the part's number
abbrev pub EndsOfNoWaitChangeNothing : Type 0
EndsOfNoWaitChangeNothing =
    (state : MachineState) (task : ℕ) (now : Moment) (part : ℕ)
    → has_wait (part_in part state) task ≡ false
    → step state task now (call.WaitEnd part) ≡ (refusal status.ErrIncorrectObjState, state)

-- the objects of each kind in each part have a property
pub record OfEach (P : (T W : Type 0) → ObjectsState T W → Type 0) (state : MachineState) : Type 0 where
  pub tasks : P _ _ state.tasks.objects
  pub queues : P _ _ state.queues.objects
  pub count_sems : P _ _ state.count_sems.objects
  pub bin_sems : P _ _ state.bin_sems.objects
  pub mutexes : P _ _ state.mutexes.objects
  pub condvars : P _ _ state.condvars.objects
  pub timebases : P _ _ state.time.timebases
  pub timers : P _ _ state.time.timers
  pub streams : P _ _ state.io.streams
  pub systems : P _ _ state.io.files.systems
  pub directories : P _ _ state.io.files.directories
  pub console : P _ _ state.console.objects

-- the holds of each part's objects are those of callers and the open waits that stand on them
abbrev pub AreCounted : MachineState → Type 0
AreCounted state = OfEach (λ T W objects. IsCounted objects) state

-- in every state of the machine the holds of an object are those of callers and the open waits that stand on it
abbrev pub ObjectsAreCounted : Type 0
ObjectsAreCounted =
    (limits : Limits) (entries : List Entry)
    → Fits limits
    → AreCounted (replay limits entries)

-- the table of each part's objects is well formed
abbrev pub AreWellFormed : MachineState → Type 0
AreWellFormed state = OfEach (λ T W objects. IsWellFormed objects.table) state

-- in every state of the machine the tables are well formed
abbrev pub TablesAreWellFormed : Type 0
TablesAreWellFormed =
    (limits : Limits) (entries : List Entry)
    → Fits limits
    → AreWellFormed (replay limits entries)

-- a call changes its own part alone
abbrev pub CallsChangeTheirPart : Type 0
CallsChangeTheirPart =
    (state : MachineState) (task : ℕ) (now : Moment) (made : Call) (part : ℕ)
    → part ≢ part_of made
    → part_in part (step state task now made).1 ≡ part_in part state

-- the replay of a part depends on its own entries alone
abbrev pub PartsReplayAlone : Type 0
PartsReplayAlone =
    (limits : Limits) (entries : List Entry) (part : ℕ)
    → part_in part (replay limits entries) ≡ part_in part (replay limits (entries_of_part part entries))

-- a task that is marked for deletion is not held
abbrev pub MarkedTasksAreUnheld : Type 0
MarkedTasksAreUnheld =
    (limits : Limits) (entries : List Entry) (id : ℕ) (task : Active Task)
    → task_at (replay limits entries).tasks id ≡ Some task
    → task.object.marked ≡ true
    → task.holds ≡ 0

-- a checkpoint that answers that its task was deleted has removed it
abbrev pub DeletedTasksAreGone : Type 0
DeletedTasksAreGone =
    (limits : Limits) (before : List Entry) (entry : Entry)
    → IsLegal limits (before ++ entry ∷ [])
    → entry.call ≡ call.Checkpoint
    → reply_of entry.reply ≡ deleted
    → task_at (replay limits (before ++ entry ∷ [])).tasks entry.task ≡ None

-- in every state of the machine each timebase has active timers of its own, each once, and each active timer stands in
-- the list of its timebase
abbrev pub TimersAreAttached : Type 0
TimersAreAttached =
    (limits : Limits) (entries : List Entry)
    → Fits limits
    → AreAttached limits.timers (replay limits entries).time

-- a tick tells of no more timers, in twelve bytes each, than a timebase may have, nor than there may be
abbrev pub TicksFireFew : Type 0
TicksFireFew =
    (limits : Limits) (before : List Entry) (entry : Entry) (id usecs : ℕ)
    → Fits limits
    → IsLegal limits (before ++ entry ∷ [])
    → entry.call ≡ call.TimebaseTick id usecs
    → length entry.reply.bytes.bytes ≤ 12 * min timer_limit limits.timers
