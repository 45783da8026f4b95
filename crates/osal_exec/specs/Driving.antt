-- What a driver has done so far.
use Rattle.std.specs.Prelude.{◌≡◌, ◌<◌, ◌≤◌, ◌+◌, ◌++◌, ◌⊎◌, List, [], ◌∷◌, ℕ, Bool, true, false, Option, Some, None, length}
use Rattle.osal_base.specs.Limits.{version1}
use Rattle.osal_base.specs.Reply.{reply_of}
use Rattle.osal_call.specs.declared.call.Call.{Call}
use Rattle.osal_call.specs.declared.call.Entry.{Entry}
use Rattle.osal_machine.specs.Step.{MachineState, step}
use Rattle.osal_call.specs.Journal.{Entries}
use Rattle.osal_machine.specs.History.{replay}
use Rattle.osal_script.specs.App.{Application, NamesLater, HandlersAreBare}
use Rattle.osal_script.specs.Cost.{cost_of}
use Rattle.osal_runs.specs.Segments.{begun, segments_of}
use Rattle.osal_runs.specs.Waiting.{some_can_go, next_deadline}
use Rattle.osal_runs.specs.Linked.{newest_script, is_leaving, is_creation}
use Rattle.osal_runs.specs.Runs.{IsRun}
use Rattle.osal_runs.specs.UnderWay.{IsUnderWay}
use Rattle.osal_exec.specs.Running.{Running, runner_at, AreRunning, with_entry, with_begun}

-- an entry that a call made at the moment, with the reply and the state that its step gives
pub record MakesEntry (caller task : ℕ) (made : Call) (before after : MachineState) (entry : Entry) : Type 0 where
  pub by_caller : entry.caller ≡ caller
  pub of_task : entry.task ≡ task
  pub at_moment : entry.now ≡ before.time.moment
  pub of_call : entry.call ≡ made
  pub replied : reply_of entry.reply ≡ (step before task before.time.moment made).0
  pub left : after ≡ (step before task before.time.moment made).1

-- a journal with one more entry, which took one place of its room
pub record IsPushed (old new : Entries) (entry : Entry) : Type 0 where
  pub entries : new.entries ≡ old.entries ++ entry ∷ []
  pub spare : new.spare + 1 ≡ old.spare

-- the call added one entry to the journal
abbrev pub AddsEntry : ℕ → ℕ → Call → MachineState → MachineState → Entries → Entries → Type 0
AddsEntry caller task made before after old new =
    (entry : Entry) × IsPushed old new entry × MakesEntry caller task made before after entry

-- how far a driver has come: the journal so far, the machine, and the tasks whose scripts run
pub record Drive : Type 0 where
  pub journal : Entries
  pub state : MachineState
  pub runners : List (Option Running)

-- the same by its parts
abbrev pub drive_of : Entries → MachineState → List (Option Running) → Drive
drive_of journal state runners = record { journal = journal; state = state; runners = runners }

-- the journal so far is a part run with room for the rest, and the machine and the runners are where it leads
pub record IsDriven (app : Application) (drive : Drive) : Type 0 where
  pub later : NamesLater app
  pub bare : HandlersAreBare app
  pub way : IsUnderWay app drive.journal.entries
  pub room : cost_of app ≤ length drive.journal.entries + drive.journal.spare
  pub replayed : drive.state ≡ replay version1 drive.journal.entries
  pub running : AreRunning (segments_of app drive.journal.entries) drive.runners

-- no script of a journal gives a wait up: each that began to has done so
abbrev pub IsCalm : Application → List Entry → Type 0
IsCalm app entries = (task : ℕ) → is_leaving (newest_script (segments_of app entries) task).phase ≡ false

-- a driver that may go on with any task
pub record IsSteady (app : Application) (drive : Drive) : Type 0 where
  pub driven : IsDriven app drive
  pub calm : IsCalm app drive.journal.entries

-- a task may be created only where no script gives a wait up
abbrev pub MayCreate : Application → List Entry → Call → Type 0
MayCreate app entries made = is_creation made ≡ true → IsCalm app entries

-- the call of the task in a slot added an entry, by which its script went on and the task that it makes began
pub record Takes (app : Application) (slot : ℕ) (made : Call) (old new : Drive) : Type 0 where
  pub entry : Entry
  pub runner : Running
  pub own : runner_at old.runners slot ≡ Some runner
  pub pushed : IsPushed old.journal new.journal entry
  pub makes : MakesEntry (slot + 1) runner.id made old.state new.state entry
  pub runners : new.runners ≡ with_begun (with_entry old.runners slot entry) (begun app entry)

-- the journal has grown since, or all is as it was and the fact holds
abbrev pub Since : Drive → Drive → Type 0 → Type 0
Since old new P = (length old.journal.entries < length new.journal.entries) ⊎ ((new ≡ old) × P)

-- no task can go on, and no wait becomes due
pub record IsStill (app : Application) (drive : Drive) : Type 0 where
  pub still : some_can_go drive.state (segments_of app drive.journal.entries) ≡ false
  pub due : next_deadline drive.state ≡ None

-- what a round and what comes beside it leave: a driver that has gone on, or nothing was left to do there
abbrev pub HasPlayed : Application → Drive → Drive → Bool → Type 0
HasPlayed app old new true = IsSteady app new × (length old.journal.entries < length new.journal.entries)
HasPlayed app old new false = (new ≡ old) × IsStill app new

-- what a turn of a driver leaves: a driver that has gone on, or a run
abbrev pub HasTurned : Application → Drive → Drive → Bool → Type 0
HasTurned app old new true = IsSteady app new × (length old.journal.entries < length new.journal.entries)
HasTurned app old new false = IsRun app new.journal.entries
