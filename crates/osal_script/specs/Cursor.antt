-- What a cursor gives: a script's calls, where nobody deletes its task in a wait.
use Rattle.std.specs.Prelude.{◌≡◌, List, [], ◌∷◌, ℕ, Option, Some, None}
use Rattle.osal_base.specs.Reply.{Replied}
use Rattle.osal_call.specs.declared.call.Call.{Call}
use Rattle.osal_call.specs.declared.call.Call.TheVariants as call
use Rattle.osal_call.specs.Call.{said}
use Rattle.osal_line.specs.declared.line.Line.{Line}
use Rattle.osal_script.specs.declared.cursor.Step.{Step}
use Rattle.osal_script.specs.declared.cursor.Step.TheVariants as step
use Rattle.osal_script.specs.declared.phase.Phase.{Phase}
use Rattle.osal_script.specs.declared.phase.Phase.TheVariants as phase
use Rattle.osal_script.specs.Script.{Pending, Frames, ScriptState, frame_at, line_call, after}

-- the call that comes in a phase, if nobody deletes the task in a wait
abbrev pub call_in : Phase → ScriptState → Option Call
call_in phase.Before state = Some call.Checkpoint
call_in phase.At state = Some (line_call state.pending state.frames)
call_in (phase.Waiting part) state = Some (call.WaitEnd part)
call_in (phase.Leaving part) state = Some (call.WaitAbandon part)
call_in phase.Ended state = None

-- the call that comes next
abbrev pub next_call : ScriptState → Option Call
next_call state = call_in state.phase state

-- how far a script has come after the reply to a call that was to come next
abbrev pub answered : ScriptState → Option Call → Replied → ScriptState
answered state None reply = state
answered state (Some made) reply = after state made reply

-- the same where the first reply is still to come
abbrev pub moved : ScriptState → Option Replied → ScriptState
moved state None = state
moved state (Some reply) = answered state (next_call state) reply

-- the line that comes next, if there is one
abbrev pub first_line : List Pending → Option Line
first_line [] = None
first_line (next ∷ pending) = Some next.line

-- the registers that it uses, or the body's before the exit
abbrev pub first_frame : List Pending → Frames → List ℕ
first_frame [] frames = frames.body
first_frame (next ∷ pending) frames = frame_at frames next.frame

-- the number of a line, or 0 before the exit
abbrev pub line_number : Option Line → ℕ
line_number None = 0
line_number (Some line) = line.number

-- what a cursor gives is the script's next call, and its line, or says that there is none
abbrev pub IsStep : ScriptState → Step → Type 0
IsStep state (step.Make line made) =
    (next_call state ≡ Some (said made)) × (line ≡ line_number (first_line state.pending))
IsStep state step.Finished = state.phase ≡ phase.Ended
