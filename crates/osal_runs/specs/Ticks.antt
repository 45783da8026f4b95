-- What the bytes of a tick say of handlers, however many they are.
use Rattle.std.specs.Prelude.{◌≡◌, ◌++◌, List, [], ◌∷◌, ℕ, length}
use Rattle.osal_base.specs.declared.limits.Limits.{Limits}
use Rattle.osal_base.specs.Limits.{Fits}
use Rattle.osal_call.specs.declared.call.Call.TheVariants as call
use Rattle.osal_call.specs.declared.call.Entry.{Entry}
use Rattle.osal_call.specs.Firing.{timer_limit}
use Rattle.osal_machine.specs.History.{IsLegal}
use Rattle.osal_script.specs.Script.{handler_numbers}

-- the numbers of the handlers in all whole groups of a tick's bytes
abbrev pub all_numbers : List ℕ → List ℕ
all_numbers bytes = handler_numbers (length bytes) bytes

-- a script leaves out no handler of a tick: those that it reads are all that the machine told
abbrev pub TicksAreReadWhole : Type 0
TicksAreReadWhole =
    (limits : Limits) (before : List Entry) (entry : Entry) (id usecs : ℕ)
    → Fits limits
    → IsLegal limits (before ++ entry ∷ [])
    → entry.call ≡ call.TimebaseTick id usecs
    → handler_numbers timer_limit entry.reply.bytes.bytes ≡ all_numbers entry.reply.bytes.bytes
