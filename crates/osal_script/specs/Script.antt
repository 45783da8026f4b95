-- What a script calls: the lines in their order, each behind a checkpoint, and then the exit.
use Rattle.std.specs.Prelude.{◌≡◌, ◌⊎◌, ◌++◌, ◌&&◌, List, [], ◌∷◌, ℕ, zero, suc, Bool, Option, Some, None, true, false, map, length, drop, nat_lt, replicate, slice_get, if◌then◌else◌}
use Rattle.osal_base.specs.declared.reply.Answer.{Answer}
use Rattle.osal_base.specs.declared.reply.Answer.TheVariants as answer
use Rattle.osal_base.specs.Reply.{Replied, reply_of, is_waits}
pub use Rattle.osal_base.specs.Reply.{is_success}
use Rattle.osal_call.specs.declared.call.Call.{Call}
use Rattle.osal_call.specs.declared.call.Call.TheVariants as call
use Rattle.osal_call.specs.declared.call.Entry.{Entry}
use Rattle.osal_call.specs.Call.{said, part_of}
use Rattle.osal_call.specs.Firing.{timer_limit, group_number}
use Rattle.osal_line.specs.declared.kind.BodyKind.{BodyKind}
use Rattle.osal_line.specs.declared.kind.BodyKind.TheVariants as kind
use Rattle.osal_line.specs.declared.line.Line.{Line}
use Rattle.osal_line.specs.declared.line.ScriptCall.{ScriptCall}
use Rattle.osal_line.specs.Bare.{is_tick_line}
use Rattle.osal_line.specs.Calls.{call_of, register_of}
use Rattle.osal_line.specs.Exit.{is_exit_line}
use Rattle.osal_line.specs.Held.{registers_after}
use Rattle.osal_script.specs.declared.phase.Phase.{Phase}
use Rattle.osal_script.specs.declared.phase.Phase.TheVariants as phase
use Rattle.osal_script.specs.App.{ScriptBody, lines_of}

-- whose registers a line uses: its body's; or a handler's, which are new with the handler's first line
pub data Frame : Type 0 where
  OfBody : Frame
  BeginsHandler : Frame
  OfHandler : Frame

-- a line that is still to come
pub record Pending : Type 0 where
  pub line : Line
  pub frame : Frame

-- the registers of the body, and those of the handler that runs or has run
pub record Frames : Type 0 where
  pub body : List ℕ
  pub handler : List ℕ

-- how far a script has come: what comes next, the lines that are still to come, the registers, and the bodies of the
-- application, for the handlers among them
pub record ScriptState : Type 0 where
  pub phase : Phase
  pub pending : List Pending
  pub frames : Frames
  pub bodies : List ScriptBody

-- registers that nothing has set
abbrev pub fresh : List ℕ
fresh = replicate 32 0

-- a line of the body itself
abbrev pub in_body : Line → Pending
in_body line = record { line = line; frame = OfBody }

-- a line of a handler that has begun
abbrev pub in_handler : Line → Pending
in_handler line = record { line = line; frame = OfHandler }

-- the lines of a handler: its registers are new with the first
abbrev pub of_handler : List Line → List Pending
of_handler [] = []
of_handler (line ∷ lines) = record { line = line; frame = BeginsHandler } ∷ map in_handler lines

-- the start of a body's script, with each register at 0
abbrev pub start_of : List ScriptBody → ScriptBody → ScriptState
start_of bodies body = record {
  phase = phase.Before;
  pending = map in_body (lines_of body);
  frames = record { body = fresh; handler = fresh };
  bodies = bodies;
}

-- the registers that a line uses
abbrev pub frame_at : Frames → Frame → List ℕ
frame_at frames OfBody = frames.body
frame_at frames BeginsHandler = fresh
frame_at frames OfHandler = frames.handler

-- the frames with what a line left in its registers
abbrev pub with_frame : Frames → Frame → List ℕ → Frames
with_frame frames OfBody after = record frames { body = after }
with_frame frames BeginsHandler after = record frames { handler = after }
with_frame frames OfHandler after = record frames { handler = after }

-- the call of the line that comes next, or the exit where there is none
abbrev pub line_call : List Pending → Frames → Call
line_call [] frames = call.TaskExit
line_call (next ∷ pending) frames = call_of next.line.call (frame_at frames next.frame)

-- the numbers of the handlers in a tick's bytes, from so many whole groups at most
unfoldable pub handler_numbers : ℕ → List ℕ → List ℕ
handler_numbers zero bytes = []
handler_numbers (suc n) bytes =
    if nat_lt (length bytes) 12 then [] else group_number bytes ∷ handler_numbers n (drop 12 bytes)

-- the lines of a body, where it is a handler
abbrev pub lines_if_handler : BodyKind → ScriptBody → List Pending
lines_if_handler kind.Handler body = of_handler (lines_of body)
lines_if_handler kind.Task body = []

-- the lines of a body that may be there, where it is a handler
abbrev pub handler_lines : Option ScriptBody → List Pending
handler_lines None = []
handler_lines (Some body) = lines_if_handler body.kind body

-- the lines of the handlers of these numbers, in order
abbrev pub put_in : List ScriptBody → List ℕ → List Pending
put_in bodies [] = []
put_in bodies (number ∷ numbers) = handler_lines (slice_get bodies number) ++ put_in bodies numbers

-- whether a line is the body's own
abbrev pub is_of_body : Frame → Bool
is_of_body OfBody = true
is_of_body BeginsHandler = false
is_of_body OfHandler = false

-- what a line puts before those that are still to come: a tick of the body that succeeds, the handlers of the timers
-- that fired. No tick fires more timers than one timebase may have, and no handler ticks
abbrev pub fired : List ScriptBody → Pending → Replied → List Pending
fired bodies next reply =
    if is_of_body next.frame && is_tick_line next.line.call && is_success reply.answer
    then put_in bodies (handler_numbers timer_limit reply.bytes)
    else []

-- what comes after a line: nothing after an exit that succeeded, else the next checkpoint
abbrev pub phase_after_line : ScriptCall → Answer → Phase
phase_after_line made reply =
    if is_exit_line made then (if is_success reply then phase.Ended else phase.Before) else phase.Before

-- a line that was answered is done; the exit behind the last line ends the script whatever its answer
abbrev pub after_answer : List ScriptBody → List Pending → Frames → Replied → ScriptState
after_answer bodies [] frames reply = record { phase = phase.Ended; pending = []; frames = frames; bodies = bodies }
after_answer bodies (next ∷ pending) frames reply = record {
  phase = phase_after_line next.line.call reply.answer;
  pending = fired bodies next reply ++ pending;
  frames = with_frame frames next.frame (registers_after (register_of next.line.call) reply (frame_at frames next.frame));
  bodies = bodies;
}

-- a checkpoint that goes on leads to what it stands before, and a deletion ends the script
abbrev pub phase_after_checkpoint : Answer → Phase
phase_after_checkpoint answer.Go = phase.At
phase_after_checkpoint answer.Deleted = phase.Ended
phase_after_checkpoint answer.Waits = phase.Ended
phase_after_checkpoint (answer.Code code) = phase.Ended

-- whether a call is a checkpoint
abbrev pub is_checkpoint : Call → Bool
is_checkpoint call.Checkpoint = true
is_checkpoint other = false

-- how far a script has come after a call in a phase
abbrev pub after_in : Phase → ScriptState → Call → Replied → ScriptState
after_in phase.Before state made reply = record state { phase = phase_after_checkpoint reply.answer }
after_in phase.At state made reply =
    if is_waits reply.answer then record state { phase = phase.Waiting (part_of made) }
    else after_answer state.bodies state.pending state.frames reply
after_in (phase.Waiting part) state made reply =
    if is_checkpoint made then record state { phase = phase.Leaving part }
    else after_answer state.bodies state.pending state.frames reply
after_in (phase.Leaving part) state made reply = record state { phase = phase.Ended }
after_in phase.Ended state made reply = state

-- how far a script has come after a call and its reply
abbrev pub after : ScriptState → Call → Replied → ScriptState
after state made reply = after_in state.phase state made reply

-- a checkpoint is answered by going on or by a deletion
abbrev pub IsCheckpointAnswer : Answer → Type 0
IsCheckpointAnswer answer.Go = Unit {0}
IsCheckpointAnswer answer.Deleted = Unit {0}
IsCheckpointAnswer answer.Waits = ⊥
IsCheckpointAnswer (answer.Code code) = ⊥

-- the calls that may come in a phase, each with its answer: a wait ends, or a checkpoint tells that the task was
-- deleted, and then the wait is given up
abbrev pub MayCome : Phase → ScriptState → Call → Answer → Type 0
MayCome phase.Before state made reply = (made ≡ call.Checkpoint) × IsCheckpointAnswer reply
MayCome phase.At state made reply = made ≡ line_call state.pending state.frames
MayCome (phase.Waiting part) state made reply =
    ((made ≡ call.WaitEnd part) × (is_waits reply ≡ false)) ⊎ ((made ≡ call.Checkpoint) × (reply ≡ answer.Deleted))
MayCome (phase.Leaving part) state made reply = made ≡ call.WaitAbandon part
MayCome phase.Ended state made reply = ⊥

-- an entry makes a call that may come next
abbrev pub IsNext : ScriptState → Entry → Type 0
IsNext state entry = MayCome state.phase state (said entry.call) entry.reply.answer

-- how far a script has come after an entry
abbrev pub after_entry : ScriptState → Entry → ScriptState
after_entry state entry = after state entry.call (reply_of entry.reply)

-- the entries of a task make its script's calls, each once and in order, as far as they go
abbrev pub Follow : ScriptState → List Entry → Type 0
Follow state [] = Unit {0}
Follow state (entry ∷ entries) = IsNext state entry × Follow (after_entry state entry) entries

-- how far a script has come after the entries
abbrev pub reached : ScriptState → List Entry → ScriptState
reached state [] = state
reached state (entry ∷ entries) = reached (after_entry state entry) entries

-- whether a script is at its end
abbrev pub is_ended : Phase → Bool
is_ended phase.Before = false
is_ended phase.At = false
is_ended (phase.Waiting part) = false
is_ended (phase.Leaving part) = false
is_ended phase.Ended = true
