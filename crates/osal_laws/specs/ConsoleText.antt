-- What a history shows on the console, and what of it was drained.
use Rattle.std.specs.Prelude.{◌≡◌, ◌&&◌, ◌++◌, List, [], ◌∷◌, ℕ, Bool, true, false, if◌then◌else◌}
use Rattle.osal_base.specs.declared.limits.Limits.{Limits}
use Rattle.osal_base.specs.Reply.{is_success}
use Rattle.osal_call.specs.declared.call.Call.{Call}
use Rattle.osal_call.specs.declared.call.Call.TheVariants as call
use Rattle.osal_call.specs.declared.call.Entry.{Entry}
use Rattle.osal_machine.specs.History.{IsLegal, replay}

-- whether the console takes bytes after a call
abbrev pub enabled_by : Bool → Call → Bool
enabled_by enabled call.ConsoleEnable = true
enabled_by enabled call.ConsoleDisable = false
enabled_by enabled other = enabled

-- the bytes that a call writes to the console
abbrev pub written_by : Call → List ℕ
written_by (call.ConsoleWrite payload) = payload.bytes
written_by other = []

-- the bytes that an entry shows: those of a write that succeeded while the console took bytes
abbrev pub shown_by : Bool → Entry → List ℕ
shown_by enabled entry = if enabled && is_success entry.reply.answer then written_by entry.call else []

-- the bytes that some entries show, in order
abbrev pub shown : Bool → List Entry → List ℕ
shown enabled [] = []
shown enabled (entry ∷ entries) = shown_by enabled entry ++ shown (enabled_by enabled entry.call) entries

-- the console text of a journal: at its start the console takes bytes
abbrev pub console_text : List Entry → List ℕ
console_text entries = shown true entries

-- whether a call drains the console
abbrev pub is_drain : Call → Bool
is_drain (call.Drain n) = true
is_drain other = false

-- the bytes that an entry drains
abbrev pub drained_by : Entry → List ℕ
drained_by entry = if is_drain entry.call then entry.reply.bytes.bytes else []

-- the bytes that some entries drain, in order
abbrev pub drained : List Entry → List ℕ
drained [] = []
drained (entry ∷ entries) = drained_by entry ++ drained entries

-- the console text is what was drained and then what is pending: the console gives the bytes that it accepted, in
-- order, each once
abbrev pub ConsoleKeepsItsBytes : Type 0
ConsoleKeepsItsBytes =
    (limits : Limits) (entries : List Entry)
    → IsLegal limits entries
    → console_text entries ≡ drained entries ++ (replay limits entries).console.pending
