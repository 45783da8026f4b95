-- The call that a line makes, its word, and the register that it sets.
use Rattle.std.specs.Prelude.{List, [], ℕ, Option, Some, None, map, slice_index}
use Rattle.osal_select.specs.Sets.{joined}
use Rattle.osal_call.specs.declared.call.Call.{Call}
use Rattle.osal_call.specs.declared.call.Call.TheVariants as call
use Rattle.osal_call.specs.declared.word.CallWord.{CallWord}
use Rattle.osal_call.specs.declared.word.CallWord.TheVariants as word
use Rattle.osal_call.specs.Call.{text_of}
use Rattle.osal_call.specs.Signature.{object_call, name_call, wait_call, value_call, number_call, path_call, paths_call, bare_call, word_text}
use Rattle.osal_line.specs.declared.line.Line.{Line}
use Rattle.osal_line.specs.declared.line.ScriptCall.{ScriptCall}
use Rattle.osal_line.specs.declared.line.ScriptCall.TheVariants as script

-- the set of the streams whose identifiers some registers hold
abbrev pub streams_in : List ℕ → List ℕ → List ℕ
streams_in registers set = joined [] (map (slice_index registers) set)

-- the call that a line makes under the registers
abbrev pub call_of : ScriptCall → List ℕ → Call
call_of (script.Object called id) registers = object_call called (slice_index registers id)
call_of (script.Name called register name) registers = name_call called (text_of name)
call_of (script.Wait called id wait) registers = wait_call called (slice_index registers id) wait
call_of (script.Value called register name value) registers = value_call called (text_of name) value
call_of (script.Number called id number) registers = number_call called (slice_index registers id) number
call_of (script.Path called path) registers = path_call called (text_of path)
call_of (script.Paths called path to) registers = paths_call called (text_of path) (text_of to)
call_of (script.Bare called) registers = bare_call called
call_of (script.TaskCreate register name body stack priority) registers =
    call.TaskCreate (text_of name) body stack priority
call_of script.TaskExit registers = call.TaskExit
call_of (script.TaskDelay ms) registers = call.TaskDelay ms
call_of (script.QueueCreate register name depth size) registers = call.QueueCreate (text_of name) depth size
call_of (script.QueuePut id payload) registers = call.QueuePut (slice_index registers id) (text_of payload)
call_of (script.QueueGet id n wait) registers = call.QueueGet (slice_index registers id) n wait
call_of (script.TimerAdd register name timebase handler) registers =
    call.TimerAdd (text_of name) (slice_index registers timebase) handler
call_of (script.TimerSet id start interval) registers = call.TimerSet (slice_index registers id) start interval
call_of (script.Mkfs device label blocks) registers = call.Mkfs (text_of device) (text_of label) blocks
call_of (script.Open register path flags access) registers = call.Open (text_of path) flags access
call_of (script.Read id n wait) registers = call.Read (slice_index registers id) n wait
call_of (script.Write id payload) registers = call.Write (slice_index registers id) (text_of payload)
call_of (script.Lseek id offset whence) registers = call.Lseek (slice_index registers id) offset whence
call_of (script.SocketOpen register kind) registers = call.SocketOpen kind
call_of (script.SocketAccept register id wait) registers = call.SocketAccept (slice_index registers id) wait
call_of (script.SocketSend id payload port) registers =
    call.SocketSend (slice_index registers id) (text_of payload) port
call_of (script.SocketRecv id n wait) registers = call.SocketRecv (slice_index registers id) n wait
call_of (script.SocketShutdown id how) registers = call.SocketShutdown (slice_index registers id) how
call_of (script.SelectOne id mode wait) registers = call.SelectOne (slice_index registers id) mode wait
call_of (script.SelectMulti reads writes wait) registers =
    call.SelectMulti (streams_in registers reads) (streams_in registers writes) wait
call_of (script.ConsoleWrite payload) registers = call.ConsoleWrite (text_of payload)

-- the call of a line, or the exit where there is none
abbrev pub call_made : Option Line → List ℕ → Call
call_made None registers = call.TaskExit
call_made (Some line) registers = call_of line.call registers

-- which call a line makes
abbrev pub word_of : ScriptCall → CallWord
word_of (script.Object called id) = word.Object called
word_of (script.Name called register name) = word.Name called
word_of (script.Wait called id wait) = word.Wait called
word_of (script.Value called register name value) = word.Value called
word_of (script.Number called id number) = word.Number called
word_of (script.Path called path) = word.Path called
word_of (script.Paths called path to) = word.Paths called
word_of (script.Bare called) = word.Bare called
word_of (script.TaskCreate register name body stack priority) = word.TaskCreate
word_of script.TaskExit = word.TaskExit
word_of (script.TaskDelay ms) = word.TaskDelay
word_of (script.QueueCreate register name depth size) = word.QueueCreate
word_of (script.QueuePut id payload) = word.QueuePut
word_of (script.QueueGet id n wait) = word.QueueGet
word_of (script.TimerAdd register name timebase handler) = word.TimerAdd
word_of (script.TimerSet id start interval) = word.TimerSet
word_of (script.Mkfs device label blocks) = word.Mkfs
word_of (script.Open register path flags access) = word.Open
word_of (script.Read id n wait) = word.Read
word_of (script.Write id payload) = word.Write
word_of (script.Lseek id offset whence) = word.Lseek
word_of (script.SocketOpen register kind) = word.SocketOpen
word_of (script.SocketAccept register id wait) = word.SocketAccept
word_of (script.SocketSend id payload port) = word.SocketSend
word_of (script.SocketRecv id n wait) = word.SocketRecv
word_of (script.SocketShutdown id how) = word.SocketShutdown
word_of (script.SelectOne id mode wait) = word.SelectOne
word_of (script.SelectMulti reads writes wait) = word.SelectMulti
word_of (script.ConsoleWrite payload) = word.ConsoleWrite

-- the name of a line's call
abbrev pub call_name : ScriptCall → List ℕ
call_name made = word_text (word_of made)

-- the register that a line's success sets
abbrev pub register_of : ScriptCall → Option ℕ
register_of (script.Name called register name) = Some register
register_of (script.Value called register name value) = Some register
register_of (script.TaskCreate register name body stack priority) = Some register
register_of (script.QueueCreate register name depth size) = Some register
register_of (script.TimerAdd register name timebase handler) = Some register
register_of (script.Open register path flags access) = Some register
register_of (script.SocketOpen register kind) = Some register
register_of (script.SocketAccept register id wait) = Some register
register_of other = None
