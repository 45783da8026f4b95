-- The console: the bytes that wait to be written, and what its calls do to them.
use Rattle.std.specs.Prelude.{◌==◌, ◌||◌, ◌+◌, ◌++◌, ℕ, List, [], Bool, true, false, pos, length, take, drop, codes, Some, is_some, not, nat_lt, if◌then◌else◌}
use Rattle.osal_base.specs.declared.limits.Limits.{Limits}
use Rattle.osal_base.specs.declared.id.ObjType.TheVariants as kind
use Rattle.osal_base.specs.declared.reply.Answer.TheVariants as answer
use Rattle.osal_base.specs.declared.status.Status.TheVariants as status
use Rattle.osal_base.specs.declared.time.Moment.{Moment}
use Rattle.osal_base.specs.Identifier.{type_number}
use Rattle.osal_base.specs.Reply.{Replied, refusal, success, is_waits}
use Rattle.osal_idtable.specs.Table.{active_at}
use Rattle.osal_object.specs.Objects.{ObjectsState, no_objects, create_step, hold_call_step, release_call_step}
use Rattle.osal_call.specs.declared.call.Call.{Call}
use Rattle.osal_call.specs.declared.call.Call.TheVariants as call

-- the console: the table of its one identifier, whether it takes bytes, and the bytes that are pending. No call of it
-- waits
pub record ConsoleState : Type 0 where
  pub objects : ObjectsState (Unit {0}) (Unit {0})
  pub enabled : Bool
  pub pending : List ℕ

-- the most bytes that are pending
abbrev pub pending_limit : ℕ
pending_limit = 4096

-- the most bytes that one drain takes
abbrev pub drain_limit : ℕ
drain_limit = 1024

-- the console at the start: it stands under its name, takes bytes, and none is pending
abbrev pub empty_console : Limits → ConsoleState
empty_console limits = record {
  objects = (create_step (no_objects (type_number kind.Console) 1 limits.tasks) (Some (codes "console")) tt).1;
  enabled = true;
  pending = [];
}

-- a reply, and the console after the call
abbrev pub Stepped : Type 0
Stepped = Replied × ConsoleState

-- a write while the console takes bytes: all of them, or none where there is no room for all
abbrev pub written : ConsoleState → List ℕ → Stepped
written console payload =
    if nat_lt pending_limit (length console.pending + length payload) then (refusal status.QueueFull, console)
    else (success, record console { pending = console.pending ++ payload })

-- a write: while the console is disabled nothing happens
abbrev pub console_write : ConsoleState → List ℕ → Stepped
console_write console payload = if console.enabled then written console payload else (success, console)

-- from now on the console takes bytes
abbrev pub console_enable : ConsoleState → Stepped
console_enable console = (success, record console { enabled = true })

-- from now on it takes none
abbrev pub console_disable : ConsoleState → Stepped
console_disable console = (success, record console { enabled = false })

-- bytes that are given: the code is how many they are
abbrev pub gives_count : List ℕ → Replied
gives_count bytes = record { answer = answer.Code (pos (length bytes)); number = 0; bytes = bytes }

-- a drain: the first bytes that are pending, at most so many
abbrev pub drain : ConsoleState → ℕ → Stepped
drain console n =
    if (n == 0) || nat_lt drain_limit n then (refusal status.ErrInvalidSize, console)
    else (gives_count (take n console.pending), record console { pending = drop n console.pending })

-- a step of the table is a step of the console
abbrev pub in_objects : ConsoleState → Replied × ObjectsState (Unit {0}) (Unit {0}) → Stepped
in_objects console stepped = (stepped.0, record console { objects = stepped.1 })

-- whether bytes are pending
abbrev pub is_pending : ConsoleState → Bool
is_pending console = nat_lt 0 (length console.pending)

-- whether an identifier is the console's
abbrev pub is_active : ConsoleState → ℕ → Bool
is_active console id = is_some (active_at console.objects.table id)

-- the calls of the console: no task waits here, so the end of a wait is refused
abbrev pub console_step : ConsoleState → ℕ → Moment → Call → Stepped
console_step console task now (call.ConsoleWrite payload) = console_write console payload.bytes
console_step console task now call.ConsoleEnable = console_enable console
console_step console task now call.ConsoleDisable = console_disable console
console_step console task now (call.Drain n) = drain console n
console_step console task now (call.Hold id) = in_objects console (hold_call_step console.objects id)
console_step console task now (call.Release id) = in_objects console (release_call_step console.objects id)
console_step console task now other = (refusal status.ErrIncorrectObjState, console)

-- whether the end of the task's wait would not wait on
abbrev pub ready : ConsoleState → ℕ → Moment → Bool
ready console task now = not (is_waits (console_step console task now (call.WaitEnd 8)).0.answer)
