-- The calls of the machine, as contracts see them.
use Rattle.std.specs.Prelude.{ℕ, List}
use Rattle.osal_base.specs.Text.{Text}
use Rattle.osal_call.specs.declared.call.Call.{Call}
use Rattle.osal_call.specs.declared.call.Call.TheVariants as call
pub use Rattle.osal_call.specs.Signature.{part_of_type, part_of_id, part_of_wait, part_of, takes_memory}

-- bytes without the room that is left beside them, which says nothing of a call
abbrev pub trimmed : Text → Text
trimmed text = record { bytes = text.bytes; spare = 0 }

-- bytes as an argument
abbrev pub text_of : List ℕ → Text
text_of bytes = record { bytes = bytes; spare = 0 }

-- a call by what it says, so that two that say the same are equal
abbrev pub said : Call → Call
said (call.TaskCreate name body stack priority) = call.TaskCreate (trimmed name) body stack priority
said call.TaskExit = call.TaskExit
said (call.TaskFind name) = call.TaskFind (trimmed name)
said (call.QueueCreate name depth size) = call.QueueCreate (trimmed name) depth size
said (call.QueuePut id payload) = call.QueuePut id (trimmed payload)
said (call.QueueFind name) = call.QueueFind (trimmed name)
said (call.CountSemCreate name value) = call.CountSemCreate (trimmed name) value
said (call.CountSemFind name) = call.CountSemFind (trimmed name)
said (call.BinSemCreate name value) = call.BinSemCreate (trimmed name) value
said (call.BinSemFind name) = call.BinSemFind (trimmed name)
said (call.MutSemCreate name) = call.MutSemCreate (trimmed name)
said (call.MutSemFind name) = call.MutSemFind (trimmed name)
said (call.CondvarCreate name) = call.CondvarCreate (trimmed name)
said (call.CondvarFind name) = call.CondvarFind (trimmed name)
said (call.TimebaseCreate name) = call.TimebaseCreate (trimmed name)
said (call.TimebaseFind name) = call.TimebaseFind (trimmed name)
said (call.TimerAdd name timebase handler) = call.TimerAdd (trimmed name) timebase handler
said (call.TimerFind name) = call.TimerFind (trimmed name)
said (call.Mkfs device label blocks) = call.Mkfs (trimmed device) (trimmed label) blocks
said (call.Mount device path) = call.Mount (trimmed device) (trimmed path)
said (call.Unmount path) = call.Unmount (trimmed path)
said (call.Rmfs device) = call.Rmfs (trimmed device)
said (call.StatVolume path) = call.StatVolume (trimmed path)
said (call.Open path flags access) = call.Open (trimmed path) flags access
said (call.Write id payload) = call.Write id (trimmed payload)
said (call.Remove path) = call.Remove (trimmed path)
said (call.Rename path to) = call.Rename (trimmed path) (trimmed to)
said (call.Cp path to) = call.Cp (trimmed path) (trimmed to)
said (call.Stat path) = call.Stat (trimmed path)
said (call.Mkdir path) = call.Mkdir (trimmed path)
said (call.Rmdir path) = call.Rmdir (trimmed path)
said (call.DirOpen path) = call.DirOpen (trimmed path)
said (call.SocketSend id payload port) = call.SocketSend id (trimmed payload) port
said (call.ConsoleWrite payload) = call.ConsoleWrite (trimmed payload)
said other = other
