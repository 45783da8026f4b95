-- Which journals are runs of an application.
use Rattle.std.specs.Prelude.{◌≡◌, ◌<◌, ◌+◌, ◌==◌, ◌&&◌, List, [], ◌∷◌, Bool, true, false, Some, None, length, int_lt, pos}
use Rattle.std.specs.List.{AllByRecursion}
use Rattle.osal_base.specs.declared.reply.Answer.{Answer}
use Rattle.osal_base.specs.declared.reply.Answer.TheVariants as answer
use Rattle.osal_base.specs.declared.time.Moment.{Moment}
use Rattle.osal_base.specs.Identifier.{slot_of}
use Rattle.osal_base.specs.Limits.{version1}
use Rattle.osal_call.specs.declared.call.Call.{Call}
use Rattle.osal_call.specs.declared.call.Call.TheVariants as call
use Rattle.osal_call.specs.declared.call.Entry.{Entry}
use Rattle.osal_call.specs.Call.{text_of, said}
use Rattle.osal_console.specs.Console.{drain_limit}
use Rattle.osal_machine.specs.Step.{MachineState, opening}
use Rattle.osal_machine.specs.History.{IsLegal, after_entry, replay}
use Rattle.osal_script.specs.App.{Application, ScriptBody}
use Rattle.osal_script.specs.Script.{start_of, Follow, is_success, is_ended}
use Rattle.osal_runs.specs.Segments.{Segment, script_in, has_segment, recorded, segments_of}
use Rattle.osal_runs.specs.Waiting.{some_can_go, next_deadline}

-- the first entry of a run creates the first body's task, under its own name
pub record CreatesMain (body : ScriptBody) (entry : Entry) : Type 0 where
  pub caller : entry.caller ≡ 0
  pub task : entry.task ≡ 0
  pub call : said entry.call ≡ call.TaskCreate (text_of body.name) 0 0 0

-- the same by the first body of an application, which has one
abbrev pub CreatesFirst : List ScriptBody → Entry → Type 0
CreatesFirst [] entry = ⊥
CreatesFirst (body ∷ bodies) entry = CreatesMain body entry

-- whether a call makes time go on
abbrev pub is_advance : Call → Bool
is_advance (call.Advance to) = true
is_advance other = false

-- whether an answer is a count above 0
abbrev pub is_some_count : Answer → Bool
is_some_count (answer.Code code) = int_lt (pos 0) code
is_some_count other = false

-- whether the machine itself makes a call that is answered so: time goes on, or the console gives some bytes
abbrev pub is_machine_call : Call → Answer → Bool
is_machine_call (call.Advance to) reply = is_success reply
is_machine_call (call.Drain n) reply = (n == drain_limit) && is_some_count reply
is_machine_call other reply = false

-- an entry of the machine itself
pub record IsOfMachine (entry : Entry) : Type 0 where
  pub caller : entry.caller ≡ 0
  pub call : is_machine_call entry.call entry.reply.answer ≡ true

-- an entry of a task that was created before: its caller is one more than its slot
pub record IsOfTask (segments : List Segment) (entry : Entry) : Type 0 where
  pub caller : entry.caller ≡ slot_of entry.task version1.tasks + 1
  pub created : has_segment segments entry.task ≡ true

-- an entry is the machine's own where its task is 0, and else a task's
abbrev pub IsCalledBy : Bool → List Segment → Entry → Type 0
IsCalledBy true segments entry = IsOfMachine entry
IsCalledBy false segments entry = IsOfTask segments entry

-- the same, by the entry's task
abbrev pub IsCalled : List Segment → Entry → Type 0
IsCalled segments entry = IsCalledBy (entry.task == 0) segments entry

-- each of the entries is the machine's own, or of a task that was created before it
abbrev pub AreCalled : Application → List Segment → List Entry → Type 0
AreCalled app segments [] = Unit {0}
AreCalled app segments (entry ∷ entries) =
    IsCalled segments entry × AreCalled app (recorded app segments entry) entries

-- the journal begins with the first task's creation, and its other entries are the machine's or of tasks
abbrev pub Begins : Application → List Entry → Type 0
Begins app [] = Unit {0}
Begins app (first ∷ entries) = CreatesFirst app.bodies first × AreCalled app (recorded app [] first) entries

-- the moment after a call: where it made time go on, that one
abbrev pub moment_by : Moment → Call → Moment
moment_by now (call.Advance to) = record { ms = to }
moment_by now other = now

-- each entry is made at the moment to which time has gone on
abbrev pub AreTimed : Moment → List Entry → Type 0
AreTimed now [] = Unit {0}
AreTimed now (entry ∷ entries) = (entry.now ≡ now) × AreTimed (moment_by now entry.call) entries

-- the entries of a segment are exactly its script's calls, as far as they go
abbrev pub FollowsScript : Segment → Type 0
FollowsScript segment = Follow (start_of segment.bodies segment.body) segment.entries

-- a segment whose identifier is created again has come to its script's end
abbrev pub EndsBefore : List Segment → Type 0
EndsBefore [] = Unit {0}
EndsBefore (segment ∷ segments) =
    (has_segment segments segment.id ≡ true → is_ended (script_in segment).phase ≡ true) × EndsBefore segments

-- a journal follows its application
pub record Follows (app : Application) (entries : List Entry) : Type 0 where
  pub begins : Begins app entries
  pub timed : AreTimed (record { ms = 0 }) entries
  pub scripts : AllByRecursion FollowsScript (segments_of app entries)
  pub ended : EndsBefore (segments_of app entries)

-- time goes on only where no task can go on, and then to the least deadline behind the moment
abbrev pub IsTimelyCall : MachineState → List Segment → Call → Type 0
IsTimelyCall state segments (call.Advance to) =
    (some_can_go state segments ≡ false) × (next_deadline state ≡ Some to)
IsTimelyCall state segments other = Unit {0}

-- each of the entries is timely, in the state and behind the segments before it
abbrev pub AreTimely : Application → MachineState → List Segment → List Entry → Type 0
AreTimely app state segments [] = Unit {0}
AreTimely app state segments (entry ∷ entries) =
    IsTimelyCall state segments entry.call
    × AreTimely app (after_entry state entry) (recorded app segments entry) entries

-- time goes on in a journal only as it may
abbrev pub IsTimely : Application → List Entry → Type 0
IsTimely app entries = AreTimely app (opening version1) [] entries

-- a part run: a legal history that follows the application and is timely
pub record IsPartRun (app : Application) (entries : List Entry) : Type 0 where
  pub legal : IsLegal version1 entries
  pub follows : Follows app entries
  pub timely : IsTimely app entries

-- nothing is left to do: no task can go on, no wait becomes due, and no byte is pending on the console
pub record IsSettled (app : Application) (entries : List Entry) : Type 0 where
  pub still : some_can_go (replay version1 entries) (segments_of app entries) ≡ false
  pub due : next_deadline (replay version1 entries) ≡ None
  pub drained : (replay version1 entries).console.pending ≡ []

-- a run: a front of one with at least one entry, which is settled
pub record IsRun (app : Application) (entries : List Entry) : Type 0 where
  pub part : IsPartRun app entries
  pub begun : 0 < length entries
  pub settled : IsSettled app entries
