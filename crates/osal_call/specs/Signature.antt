-- What each call of the machine is: one row a call. Behind them the calls that a line of an application may make, by the
-- shape of their arguments, with their words; and what says each call, its name and its arguments.
use Rattle.std.specs.Prelude.{◌==◌, ◌++◌, ◌&&◌, ◌||◌, ℕ, Bool, true, false, List, [], ◌∷◌, Option, Some, None, codes, is_some, length, nat_lt, if◌then◌else◌}
use Rattle.std.specs.List.{find}
use Rattle.std.specs.Str.{bytes_eq}
use Rattle.osal_base.specs.declared.time.Timeout.{Timeout}
use Rattle.osal_base.specs.declared.time.Timeout.TheVariants as timeout
use Rattle.osal_base.specs.Identifier.{type_of}
use Rattle.osal_base.specs.Name.{name_fault}
use Rattle.osal_base.specs.Limits.{lowest_priority}
use Rattle.osal_base.specs.Text.{Text as Bytes}
use Rattle.osal_call.specs.Argument.{Argument, Text, Id, Number, Offset, Wait, Flags, Use, From, Kind, Ways, Ready, Streams as StreamSet}
use Rattle.osal_call.specs.declared.call.Call.{Call}
use Rattle.osal_call.specs.declared.call.Call.TheVariants as call
use Rattle.osal_call.specs.declared.word.object.ObjectWord.{ObjectWord}
use Rattle.osal_call.specs.declared.word.object.ObjectWord.TheVariants as object
use Rattle.osal_call.specs.declared.word.text.NameWord.{NameWord}
use Rattle.osal_call.specs.declared.word.text.NameWord.TheVariants as name_word
use Rattle.osal_call.specs.declared.word.pair.WaitWord.{WaitWord}
use Rattle.osal_call.specs.declared.word.pair.WaitWord.TheVariants as wait_word
use Rattle.osal_call.specs.declared.word.pair.ValueWord.{ValueWord}
use Rattle.osal_call.specs.declared.word.pair.ValueWord.TheVariants as value_word
use Rattle.osal_call.specs.declared.word.pair.NumberWord.{NumberWord}
use Rattle.osal_call.specs.declared.word.pair.NumberWord.TheVariants as number_word
use Rattle.osal_call.specs.declared.word.text.PathWord.{PathWord}
use Rattle.osal_call.specs.declared.word.text.PathWord.TheVariants as path_word
use Rattle.osal_call.specs.declared.word.pair.PathsWord.{PathsWord}
use Rattle.osal_call.specs.declared.word.pair.PathsWord.TheVariants as paths_word
use Rattle.osal_call.specs.declared.word.bare.BareWord.{BareWord}
use Rattle.osal_call.specs.declared.word.bare.BareWord.TheVariants as bare_word
use Rattle.osal_call.specs.declared.word.CallWord.{CallWord}
use Rattle.osal_call.specs.declared.word.CallWord.TheVariants as word

-- the number of the part that has the objects of a type, by the type's number; 0 where no part has any
abbrev pub part_of_type : ℕ → ℕ
part_of_type kind =
    if kind == 2 then 1
    else (if kind == 3 then 2
    else (if kind == 4 then 3
    else (if kind == 5 then 4
    else (if kind == 13 then 5
    else (if kind == 8 then 6
    else (if kind == 9 then 6
    else (if kind == 6 then 7
    else (if kind == 7 then 7
    else (if kind == 11 then 7
    else (if kind == 12 then 8
    else 0))))))))))

-- the number of the part that has an identifier's object
abbrev pub part_of_id : ℕ → ℕ
part_of_id id = part_of_type (type_of id)

-- the number of the part in which a wait is: a number above 8 is no part's, and goes to part 0
abbrev pub part_of_wait : ℕ → ℕ
part_of_wait part = if nat_lt 8 part then 0 else part

-- the tables of identifiers; a call on any object is on the table of the identifier's type
pub data Table : Type 0 where
  Tasks : Table
  Queues : Table
  CountSems : Table
  BinSems : Table
  Mutexes : Table
  Condvars : Table
  Timebases : Table
  Timers : Table
  Streams : Table
  Directories : Table
  OfType : Table

-- the object that a call is on: none, the calling task, or the one under an identifier
pub data Subject : Type 0 where
  Nothing : Subject
  Caller : Subject
  Object : Table → ℕ → Subject

-- the few calls that laws name by themselves
pub data Role : Type 0 where
  Plain : Role
  Creation : Role
  Exit : Role
  Checks : Role
  Advances : Role
  Ends : Role
  Abandons : Role

-- what a call is: the part that makes it, the object that it is on, whether it is refused before that is looked at, how
-- long it may wait, whether it may take memory, and which of the named calls it is
pub record Signature : Type 0 where
  pub part : ℕ
  pub subject : Subject
  pub refused_before : Bool
  pub wait : Timeout
  pub takes_memory : Bool
  pub role : Role

-- a call of a part that is on no object and may not wait
abbrev pub plain : ℕ → Signature
plain part = record {
  part = part;
  subject = Nothing;
  refused_before = false;
  wait = timeout.Check;
  takes_memory = false;
  role = Plain;
}

-- the part that has a table, or the objects of an identifier's type
abbrev pub part_of_table : Table → ℕ → ℕ
part_of_table Tasks id = 0
part_of_table Queues id = 1
part_of_table CountSems id = 2
part_of_table BinSems id = 3
part_of_table Mutexes id = 4
part_of_table Condvars id = 5
part_of_table Timebases id = 6
part_of_table Timers id = 6
part_of_table Streams id = 7
part_of_table Directories id = 7
part_of_table OfType id = part_of_id id

-- a call on an object of a table
abbrev pub on : Table → ℕ → Signature
on table id = record (plain (part_of_table table id)) { subject = Object table id }

-- what each call is
abbrev pub signature : Call → Signature
signature (call.TaskCreate name body stack priority) = record (plain 0) { role = Creation }
signature call.TaskExit = record (plain 0) { subject = Caller; role = Exit }
signature (call.TaskDelete id) = on Tasks id
signature (call.TaskSetPriority id priority) = record (on Tasks id) { refused_before = nat_lt lowest_priority priority }
signature (call.TaskFind name) = plain 0
signature (call.TaskInfo id) = on Tasks id
signature (call.TaskDelay ms) = record (plain 0) { wait = timeout.Ms ms }
signature call.Checkpoint = record (plain 0) { subject = Caller; role = Checks }
signature (call.QueueCreate name depth size) = record (plain 1) { takes_memory = true }
signature (call.QueueDelete id) = on Queues id
signature (call.QueuePut id payload) = record (on Queues id) { refused_before = length payload.bytes == 0 }
signature (call.QueueGet id n wait) = record (on Queues id) { wait = wait }
signature (call.QueueFind name) = plain 1
signature (call.QueueInfo id) = on Queues id
signature (call.CountSemCreate name value) = plain 2
signature (call.CountSemGive id) = on CountSems id
signature (call.CountSemTake id wait) = record (on CountSems id) { wait = wait }
signature (call.CountSemDelete id) = on CountSems id
signature (call.CountSemFind name) = plain 2
signature (call.CountSemInfo id) = on CountSems id
signature (call.BinSemCreate name value) = plain 3
signature (call.BinSemGive id) = on BinSems id
signature (call.BinSemFlush id) = on BinSems id
signature (call.BinSemTake id wait) = record (on BinSems id) { wait = wait }
signature (call.BinSemDelete id) = on BinSems id
signature (call.BinSemFind name) = plain 3
signature (call.BinSemInfo id) = on BinSems id
signature (call.MutSemCreate name) = plain 4
signature (call.MutSemTake id) = record (on Mutexes id) { wait = timeout.Pend }
signature (call.MutSemGive id) = on Mutexes id
signature (call.MutSemDelete id) = on Mutexes id
signature (call.MutSemFind name) = plain 4
signature (call.MutSemInfo id) = on Mutexes id
signature (call.CondvarCreate name) = plain 5
signature (call.CondvarLock id) = record (on Condvars id) { wait = timeout.Pend }
signature (call.CondvarUnlock id) = on Condvars id
signature (call.CondvarSignal id) = on Condvars id
signature (call.CondvarBroadcast id) = on Condvars id
signature (call.CondvarWait id wait) = record (on Condvars id) { wait = wait }
signature (call.CondvarDelete id) = on Condvars id
signature (call.CondvarFind name) = plain 5
signature (call.TimebaseCreate name) = plain 6
signature (call.TimebaseTick id usecs) = record (on Timebases id) { refused_before = usecs == 0 }
signature (call.TimebaseFreeRun id) = on Timebases id
signature (call.TimebaseDelete id) = on Timebases id
signature (call.TimebaseFind name) = plain 6
signature (call.TimerAdd name timebase handler) = record (on Timebases timebase) { refused_before = is_some (name_fault name.bytes) }
signature (call.TimerSet id start interval) = record (on Timers id) { refused_before = (start == 0) && (interval == 0) }
signature (call.TimerDelete id) = on Timers id
signature (call.TimerFind name) = plain 6
signature (call.TimerInfo id) = on Timers id
signature (call.Advance to) = record (plain 6) { role = Advances }
signature (call.Mkfs device label blocks) = record (plain 7) { takes_memory = true }
signature (call.Mount device path) = plain 7
signature (call.Unmount path) = plain 7
signature (call.Rmfs device) = plain 7
signature (call.StatVolume path) = plain 7
signature (call.Open path flags access) = plain 7
signature (call.Read id n wait) = record (on Streams id) { refused_before = (n == 0) || nat_lt 1024 n; wait = wait }
signature (call.Write id payload) =
    record (on Streams id) { refused_before = (length payload.bytes == 0) || nat_lt 4096 (length payload.bytes) }
signature (call.Lseek id offset whence) = on Streams id
signature (call.Close id) = on Streams id
signature (call.Remove path) = plain 7
signature (call.Rename path to) = plain 7
signature (call.Cp path to) = plain 7
signature (call.Stat path) = plain 7
signature (call.Mkdir path) = plain 7
signature (call.Rmdir path) = plain 7
signature (call.DirOpen path) = record (plain 7) { takes_memory = true }
signature (call.DirRead id) = on Directories id
signature (call.DirRewind id) = on Directories id
signature (call.DirClose id) = on Directories id
signature (call.SocketOpen kind) = record (plain 7) { takes_memory = true }
signature (call.SocketBind id port) = record (on Streams id) { refused_before = (port == 0) || nat_lt 65535 port }
signature (call.SocketListen id) = on Streams id
signature (call.SocketConnect id port) = record (on Streams id) { refused_before = (port == 0) || nat_lt 65535 port; takes_memory = true }
signature (call.SocketAccept id wait) = record (on Streams id) { wait = wait }
signature (call.SocketSend id payload port) =
    record (on Streams id) {
      refused_before = (length payload.bytes == 0) || nat_lt 1024 (length payload.bytes) || (port == 0) || nat_lt 65535 port;
    }
signature (call.SocketRecv id n wait) = record (on Streams id) { refused_before = (n == 0) || nat_lt 1024 n; wait = wait }
signature (call.SocketShutdown id how) = on Streams id
signature (call.SelectOne id mode wait) = record (on Streams id) { wait = wait }
signature (call.SelectMulti reads writes wait) = record (plain 7) { wait = wait }
signature (call.ConsoleWrite payload) = plain 8
signature call.ConsoleEnable = plain 8
signature call.ConsoleDisable = plain 8
signature (call.Drain n) = plain 8
signature (call.Hold id) = on OfType id
signature (call.Release id) = on OfType id
signature (call.WaitEnd part) = record (plain (part_of_wait part)) { role = Ends }
signature (call.WaitAbandon part) = record (plain (part_of_wait part)) { role = Abandons }

-- the number of the part whose call it is: 0 for tasks, 1 for queues, 2 and 3 for counting and binary semaphores, 4 for
-- mutexes, 5 for condition variables, 6 for time, 7 for files and sockets, 8 for the console
abbrev pub part_of : Call → ℕ
part_of made = (signature made).part

-- whether a call may take memory: a queue, a volume and a socket take their storage when they are made, a directory its
-- names when it is opened, a connection its bytes when it is made
abbrev pub takes_memory : Call → Bool
takes_memory made = (signature made).takes_memory

-- whether a call is refused before its identifier is looked at
abbrev pub is_refused_before : Call → Bool
is_refused_before made = (signature made).refused_before

-- how long a call may wait; most may not
abbrev pub timeout_of : Call → Timeout
timeout_of made = (signature made).wait

-- the identifier of a subject
abbrev pub id_of : ℕ → Subject → Option ℕ
id_of task Nothing = None
id_of task Caller = Some task
id_of task (Object table id) = Some id

-- the identifier that a call is on, if it is on one: the exit and the checkpoint of a task are on that task
abbrev pub subject_of : ℕ → Call → Option ℕ
subject_of task made = id_of task (signature made).subject

-- whether a role is the end of a wait
abbrev pub is_end : Role → Bool
is_end Ends = true
is_end other = false

-- whether a role ends a wait or gives it up
abbrev pub is_closing : Role → Bool
is_closing Ends = true
is_closing Abandons = true
is_closing other = false

-- whether a call is the end of a wait
abbrev pub is_wait_end : Call → Bool
is_wait_end made = is_end (signature made).role

-- whether a call ends a wait
abbrev pub ends_wait : Call → Bool
ends_wait made = is_closing (signature made).role

-- the call on an object
abbrev pub object_call : ObjectWord → ℕ → Call
object_call object.TaskDelete id = call.TaskDelete id
object_call object.TaskInfo id = call.TaskInfo id
object_call object.QueueDelete id = call.QueueDelete id
object_call object.QueueInfo id = call.QueueInfo id
object_call object.CountSemGive id = call.CountSemGive id
object_call object.CountSemDelete id = call.CountSemDelete id
object_call object.CountSemInfo id = call.CountSemInfo id
object_call object.BinSemGive id = call.BinSemGive id
object_call object.BinSemFlush id = call.BinSemFlush id
object_call object.BinSemDelete id = call.BinSemDelete id
object_call object.BinSemInfo id = call.BinSemInfo id
object_call object.MutSemTake id = call.MutSemTake id
object_call object.MutSemGive id = call.MutSemGive id
object_call object.MutSemDelete id = call.MutSemDelete id
object_call object.MutSemInfo id = call.MutSemInfo id
object_call object.CondvarLock id = call.CondvarLock id
object_call object.CondvarUnlock id = call.CondvarUnlock id
object_call object.CondvarSignal id = call.CondvarSignal id
object_call object.CondvarBroadcast id = call.CondvarBroadcast id
object_call object.CondvarDelete id = call.CondvarDelete id
object_call object.TimebaseFreeRun id = call.TimebaseFreeRun id
object_call object.TimebaseDelete id = call.TimebaseDelete id
object_call object.TimerDelete id = call.TimerDelete id
object_call object.TimerInfo id = call.TimerInfo id
object_call object.Close id = call.Close id
object_call object.DirRead id = call.DirRead id
object_call object.DirRewind id = call.DirRewind id
object_call object.DirClose id = call.DirClose id
object_call object.SocketListen id = call.SocketListen id
object_call object.Hold id = call.Hold id
object_call object.Release id = call.Release id

-- the call with a name
abbrev pub name_call : NameWord → Bytes → Call
name_call name_word.TaskFind text = call.TaskFind text
name_call name_word.QueueFind text = call.QueueFind text
name_call name_word.CountSemFind text = call.CountSemFind text
name_call name_word.BinSemFind text = call.BinSemFind text
name_call name_word.MutSemCreate text = call.MutSemCreate text
name_call name_word.MutSemFind text = call.MutSemFind text
name_call name_word.CondvarCreate text = call.CondvarCreate text
name_call name_word.CondvarFind text = call.CondvarFind text
name_call name_word.TimebaseCreate text = call.TimebaseCreate text
name_call name_word.TimebaseFind text = call.TimebaseFind text
name_call name_word.TimerFind text = call.TimerFind text
name_call name_word.DirOpen text = call.DirOpen text

-- the call on an object, with a wait
abbrev pub wait_call : WaitWord → ℕ → Timeout → Call
wait_call wait_word.CountSemTake id until = call.CountSemTake id until
wait_call wait_word.BinSemTake id until = call.BinSemTake id until
wait_call wait_word.CondvarWait id until = call.CondvarWait id until

-- the call with a name and a value
abbrev pub value_call : ValueWord → Bytes → ℕ → Call
value_call value_word.CountSemCreate text initial = call.CountSemCreate text initial
value_call value_word.BinSemCreate text initial = call.BinSemCreate text initial

-- the call on an object, with a number
abbrev pub number_call : NumberWord → ℕ → ℕ → Call
number_call number_word.TaskSetPriority id amount = call.TaskSetPriority id amount
number_call number_word.TimebaseTick id amount = call.TimebaseTick id amount
number_call number_word.SocketBind id amount = call.SocketBind id amount
number_call number_word.SocketConnect id amount = call.SocketConnect id amount

-- the call with a path or a device
abbrev pub path_call : PathWord → Bytes → Call
path_call path_word.Unmount text = call.Unmount text
path_call path_word.Rmfs text = call.Rmfs text
path_call path_word.StatVolume text = call.StatVolume text
path_call path_word.Remove text = call.Remove text
path_call path_word.Stat text = call.Stat text
path_call path_word.Mkdir text = call.Mkdir text
path_call path_word.Rmdir text = call.Rmdir text

-- the call with two paths, or a device and a path
abbrev pub paths_call : PathsWord → Bytes → Bytes → Call
paths_call paths_word.Mount text to = call.Mount text to
paths_call paths_word.Rename text to = call.Rename text to
paths_call paths_word.Cp text to = call.Cp text to

-- the call without arguments
abbrev pub bare_call : BareWord → Call
bare_call bare_word.ConsoleEnable = call.ConsoleEnable
bare_call bare_word.ConsoleDisable = call.ConsoleDisable

-- the words of the calls with an identifier alone
abbrev pub object_text : ObjectWord → List ℕ
object_text object.TaskDelete = codes "task_delete"
object_text object.TaskInfo = codes "task_info"
object_text object.QueueDelete = codes "queue_delete"
object_text object.QueueInfo = codes "queue_info"
object_text object.CountSemGive = codes "count_sem_give"
object_text object.CountSemDelete = codes "count_sem_delete"
object_text object.CountSemInfo = codes "count_sem_info"
object_text object.BinSemGive = codes "bin_sem_give"
object_text object.BinSemFlush = codes "bin_sem_flush"
object_text object.BinSemDelete = codes "bin_sem_delete"
object_text object.BinSemInfo = codes "bin_sem_info"
object_text object.MutSemTake = codes "mut_sem_take"
object_text object.MutSemGive = codes "mut_sem_give"
object_text object.MutSemDelete = codes "mut_sem_delete"
object_text object.MutSemInfo = codes "mut_sem_info"
object_text object.CondvarLock = codes "condvar_lock"
object_text object.CondvarUnlock = codes "condvar_unlock"
object_text object.CondvarSignal = codes "condvar_signal"
object_text object.CondvarBroadcast = codes "condvar_broadcast"
object_text object.CondvarDelete = codes "condvar_delete"
object_text object.TimebaseFreeRun = codes "timebase_free_run"
object_text object.TimebaseDelete = codes "timebase_delete"
object_text object.TimerDelete = codes "timer_delete"
object_text object.TimerInfo = codes "timer_info"
object_text object.Close = codes "close"
object_text object.DirRead = codes "dir_read"
object_text object.DirRewind = codes "dir_rewind"
object_text object.DirClose = codes "dir_close"
object_text object.SocketListen = codes "socket_listen"
object_text object.Hold = codes "hold"
object_text object.Release = codes "release"

-- the words of the calls with a name alone
abbrev pub name_text : NameWord → List ℕ
name_text name_word.TaskFind = codes "task_find"
name_text name_word.QueueFind = codes "queue_find"
name_text name_word.CountSemFind = codes "count_sem_find"
name_text name_word.BinSemFind = codes "bin_sem_find"
name_text name_word.MutSemCreate = codes "mut_sem_create"
name_text name_word.MutSemFind = codes "mut_sem_find"
name_text name_word.CondvarCreate = codes "condvar_create"
name_text name_word.CondvarFind = codes "condvar_find"
name_text name_word.TimebaseCreate = codes "timebase_create"
name_text name_word.TimebaseFind = codes "timebase_find"
name_text name_word.TimerFind = codes "timer_find"
name_text name_word.DirOpen = codes "dir_open"

-- the words of the calls with an identifier and a wait
abbrev pub wait_text : WaitWord → List ℕ
wait_text wait_word.CountSemTake = codes "count_sem_take"
wait_text wait_word.BinSemTake = codes "bin_sem_take"
wait_text wait_word.CondvarWait = codes "condvar_wait"

-- the words of the calls with a name and a value
abbrev pub value_text : ValueWord → List ℕ
value_text value_word.CountSemCreate = codes "count_sem_create"
value_text value_word.BinSemCreate = codes "bin_sem_create"

-- the words of the calls with an identifier and a number
abbrev pub number_text : NumberWord → List ℕ
number_text number_word.TaskSetPriority = codes "task_set_priority"
number_text number_word.TimebaseTick = codes "timebase_tick"
number_text number_word.SocketBind = codes "socket_bind"
number_text number_word.SocketConnect = codes "socket_connect"

-- the words of the calls with a path or a device
abbrev pub path_text : PathWord → List ℕ
path_text path_word.Unmount = codes "unmount"
path_text path_word.Rmfs = codes "rmfs"
path_text path_word.StatVolume = codes "stat_volume"
path_text path_word.Remove = codes "remove"
path_text path_word.Stat = codes "stat"
path_text path_word.Mkdir = codes "mkdir"
path_text path_word.Rmdir = codes "rmdir"

-- the words of the calls with two paths
abbrev pub paths_text : PathsWord → List ℕ
paths_text paths_word.Mount = codes "mount"
paths_text paths_word.Rename = codes "rename"
paths_text paths_word.Cp = codes "cp"

-- the words of the calls without arguments
abbrev pub bare_text : BareWord → List ℕ
bare_text bare_word.ConsoleEnable = codes "console_enable"
bare_text bare_word.ConsoleDisable = codes "console_disable"

-- the word of a call
abbrev pub word_text : CallWord → List ℕ
word_text (word.Object called) = object_text called
word_text (word.Name called) = name_text called
word_text (word.Wait called) = wait_text called
word_text (word.Value called) = value_text called
word_text (word.Number called) = number_text called
word_text (word.Path called) = path_text called
word_text (word.Paths called) = paths_text called
word_text (word.Bare called) = bare_text called
word_text word.TaskCreate = codes "task_create"
word_text word.TaskExit = codes "task_exit"
word_text word.TaskDelay = codes "task_delay"
word_text word.QueueCreate = codes "queue_create"
word_text word.QueuePut = codes "queue_put"
word_text word.QueueGet = codes "queue_get"
word_text word.TimerAdd = codes "timer_add"
word_text word.TimerSet = codes "timer_set"
word_text word.Mkfs = codes "mkfs"
word_text word.Open = codes "open"
word_text word.Read = codes "read"
word_text word.Write = codes "write"
word_text word.Lseek = codes "lseek"
word_text word.SocketOpen = codes "socket_open"
word_text word.SocketAccept = codes "socket_accept"
word_text word.SocketSend = codes "socket_send"
word_text word.SocketRecv = codes "socket_recv"
word_text word.SocketShutdown = codes "socket_shutdown"
word_text word.SelectOne = codes "select_one"
word_text word.SelectMulti = codes "select_multi"
word_text word.ConsoleWrite = codes "console_write"

-- the calls with an identifier alone that a line may make
abbrev pub object_words : List CallWord
object_words =
    word.Object object.TaskDelete ∷ word.Object object.TaskInfo ∷ word.Object object.QueueDelete
    ∷ word.Object object.QueueInfo ∷ word.Object object.CountSemGive ∷ word.Object object.CountSemDelete
    ∷ word.Object object.CountSemInfo ∷ word.Object object.BinSemGive ∷ word.Object object.BinSemFlush
    ∷ word.Object object.BinSemDelete ∷ word.Object object.BinSemInfo ∷ word.Object object.MutSemTake
    ∷ word.Object object.MutSemGive ∷ word.Object object.MutSemDelete ∷ word.Object object.MutSemInfo
    ∷ word.Object object.CondvarLock ∷ word.Object object.CondvarUnlock ∷ word.Object object.CondvarSignal
    ∷ word.Object object.CondvarBroadcast ∷ word.Object object.CondvarDelete
    ∷ word.Object object.TimebaseFreeRun ∷ word.Object object.TimebaseDelete ∷ word.Object object.TimerDelete
    ∷ word.Object object.TimerInfo ∷ word.Object object.Close ∷ word.Object object.DirRead
    ∷ word.Object object.DirRewind ∷ word.Object object.DirClose ∷ word.Object object.SocketListen
    ∷ word.Object object.Hold ∷ word.Object object.Release ∷ []

-- those with a name or a path alone, whose success gives an identifier
abbrev pub name_words : List CallWord
name_words =
    word.Name name_word.TaskFind ∷ word.Name name_word.QueueFind ∷ word.Name name_word.CountSemFind
    ∷ word.Name name_word.BinSemFind ∷ word.Name name_word.MutSemCreate ∷ word.Name name_word.MutSemFind
    ∷ word.Name name_word.CondvarCreate ∷ word.Name name_word.CondvarFind
    ∷ word.Name name_word.TimebaseCreate ∷ word.Name name_word.TimebaseFind ∷ word.Name name_word.TimerFind
    ∷ word.Name name_word.DirOpen ∷ []

-- those with an identifier and a wait
abbrev pub wait_words : List CallWord
wait_words =
    word.Wait wait_word.CountSemTake ∷ word.Wait wait_word.BinSemTake ∷ word.Wait wait_word.CondvarWait ∷ []

-- those with a name and a value
abbrev pub value_words : List CallWord
value_words =
    word.Value value_word.CountSemCreate ∷ word.Value value_word.BinSemCreate ∷ []

-- those with an identifier and a number
abbrev pub number_words : List CallWord
number_words =
    word.Number number_word.TaskSetPriority ∷ word.Number number_word.TimebaseTick
    ∷ word.Number number_word.SocketBind ∷ word.Number number_word.SocketConnect ∷ []

-- those with a path or a device alone
abbrev pub path_words : List CallWord
path_words =
    word.Path path_word.Unmount ∷ word.Path path_word.Rmfs ∷ word.Path path_word.StatVolume
    ∷ word.Path path_word.Remove ∷ word.Path path_word.Stat ∷ word.Path path_word.Mkdir
    ∷ word.Path path_word.Rmdir ∷ []

-- those with two paths
abbrev pub paths_words : List CallWord
paths_words =
    word.Paths paths_word.Mount ∷ word.Paths paths_word.Rename ∷ word.Paths paths_word.Cp ∷ []

-- those without arguments
abbrev pub bare_words : List CallWord
bare_words =
    word.Bare bare_word.ConsoleEnable ∷ word.Bare bare_word.ConsoleDisable ∷ []

-- those of none of these shapes
abbrev pub other_words : List CallWord
other_words =
    word.TaskCreate ∷ word.TaskExit ∷ word.TaskDelay ∷ word.QueueCreate ∷ word.QueuePut ∷ word.QueueGet
    ∷ word.TimerAdd ∷ word.TimerSet ∷ word.Mkfs ∷ word.Open ∷ word.Read ∷ word.Write ∷ word.Lseek
    ∷ word.SocketOpen ∷ word.SocketAccept ∷ word.SocketSend ∷ word.SocketRecv ∷ word.SocketShutdown
    ∷ word.SelectOne ∷ word.SelectMulti ∷ word.ConsoleWrite ∷ []

-- the calls that a line may make
abbrev pub call_words : List CallWord
call_words =
    object_words ++ name_words ++ wait_words ++ value_words ++ number_words ++ path_words ++ paths_words ++ bare_words
    ++ other_words

-- the call that a word names
abbrev pub call_word : List ℕ → Option CallWord
call_word text = find (λ word. bytes_eq text (word_text word)) call_words

-- a call by its name and its arguments
pub record Spelled : Type 0 where
  pub name : List ℕ
  pub arguments : List Argument

-- a call that a line may make
abbrev pub of_word : CallWord → List Argument → Spelled
of_word called arguments = record { name = word_text called; arguments = arguments }

-- a call on an object
abbrev pub of_object : ObjectWord → ℕ → Spelled
of_object called id = of_word (word.Object called) (Id id ∷ [])

-- a call with a name
abbrev pub of_name : NameWord → Bytes → Spelled
of_name called name = of_word (word.Name called) (Text name.bytes ∷ [])

-- a call on an object, with a wait
abbrev pub of_wait : WaitWord → ℕ → Timeout → Spelled
of_wait called id wait = of_word (word.Wait called) (Id id ∷ Wait wait ∷ [])

-- a call with a name and a value
abbrev pub of_value : ValueWord → Bytes → ℕ → Spelled
of_value called name value = of_word (word.Value called) (Text name.bytes ∷ Number value ∷ [])

-- a call on an object, with a number
abbrev pub of_number : NumberWord → ℕ → ℕ → Spelled
of_number called id number = of_word (word.Number called) (Id id ∷ Number number ∷ [])

-- a call with a path or a device
abbrev pub of_path : PathWord → Bytes → Spelled
of_path called path = of_word (word.Path called) (Text path.bytes ∷ [])

-- a call with two paths
abbrev pub of_paths : PathsWord → Bytes → Bytes → Spelled
of_paths called path to = of_word (word.Paths called) (Text path.bytes ∷ Text to.bytes ∷ [])

-- a call without arguments
abbrev pub of_bare : BareWord → Spelled
of_bare called = of_word (word.Bare called) []

-- how each call is spelled
abbrev pub spelled : Call → Spelled
spelled (call.TaskDelete id) = of_object object.TaskDelete id
spelled (call.TaskInfo id) = of_object object.TaskInfo id
spelled (call.QueueDelete id) = of_object object.QueueDelete id
spelled (call.QueueInfo id) = of_object object.QueueInfo id
spelled (call.CountSemGive id) = of_object object.CountSemGive id
spelled (call.CountSemDelete id) = of_object object.CountSemDelete id
spelled (call.CountSemInfo id) = of_object object.CountSemInfo id
spelled (call.BinSemGive id) = of_object object.BinSemGive id
spelled (call.BinSemFlush id) = of_object object.BinSemFlush id
spelled (call.BinSemDelete id) = of_object object.BinSemDelete id
spelled (call.BinSemInfo id) = of_object object.BinSemInfo id
spelled (call.MutSemTake id) = of_object object.MutSemTake id
spelled (call.MutSemGive id) = of_object object.MutSemGive id
spelled (call.MutSemDelete id) = of_object object.MutSemDelete id
spelled (call.MutSemInfo id) = of_object object.MutSemInfo id
spelled (call.CondvarLock id) = of_object object.CondvarLock id
spelled (call.CondvarUnlock id) = of_object object.CondvarUnlock id
spelled (call.CondvarSignal id) = of_object object.CondvarSignal id
spelled (call.CondvarBroadcast id) = of_object object.CondvarBroadcast id
spelled (call.CondvarDelete id) = of_object object.CondvarDelete id
spelled (call.TimebaseFreeRun id) = of_object object.TimebaseFreeRun id
spelled (call.TimebaseDelete id) = of_object object.TimebaseDelete id
spelled (call.TimerDelete id) = of_object object.TimerDelete id
spelled (call.TimerInfo id) = of_object object.TimerInfo id
spelled (call.Close id) = of_object object.Close id
spelled (call.DirRead id) = of_object object.DirRead id
spelled (call.DirRewind id) = of_object object.DirRewind id
spelled (call.DirClose id) = of_object object.DirClose id
spelled (call.SocketListen id) = of_object object.SocketListen id
spelled (call.Hold id) = of_object object.Hold id
spelled (call.Release id) = of_object object.Release id
spelled (call.TaskFind name) = of_name name_word.TaskFind name
spelled (call.QueueFind name) = of_name name_word.QueueFind name
spelled (call.CountSemFind name) = of_name name_word.CountSemFind name
spelled (call.BinSemFind name) = of_name name_word.BinSemFind name
spelled (call.MutSemCreate name) = of_name name_word.MutSemCreate name
spelled (call.MutSemFind name) = of_name name_word.MutSemFind name
spelled (call.CondvarCreate name) = of_name name_word.CondvarCreate name
spelled (call.CondvarFind name) = of_name name_word.CondvarFind name
spelled (call.TimebaseCreate name) = of_name name_word.TimebaseCreate name
spelled (call.TimebaseFind name) = of_name name_word.TimebaseFind name
spelled (call.TimerFind name) = of_name name_word.TimerFind name
spelled (call.DirOpen name) = of_name name_word.DirOpen name
spelled (call.CountSemTake id wait) = of_wait wait_word.CountSemTake id wait
spelled (call.BinSemTake id wait) = of_wait wait_word.BinSemTake id wait
spelled (call.CondvarWait id wait) = of_wait wait_word.CondvarWait id wait
spelled (call.CountSemCreate name value) = of_value value_word.CountSemCreate name value
spelled (call.BinSemCreate name value) = of_value value_word.BinSemCreate name value
spelled (call.TaskSetPriority id number) = of_number number_word.TaskSetPriority id number
spelled (call.TimebaseTick id number) = of_number number_word.TimebaseTick id number
spelled (call.SocketBind id number) = of_number number_word.SocketBind id number
spelled (call.SocketConnect id number) = of_number number_word.SocketConnect id number
spelled (call.Unmount path) = of_path path_word.Unmount path
spelled (call.Rmfs path) = of_path path_word.Rmfs path
spelled (call.StatVolume path) = of_path path_word.StatVolume path
spelled (call.Remove path) = of_path path_word.Remove path
spelled (call.Stat path) = of_path path_word.Stat path
spelled (call.Mkdir path) = of_path path_word.Mkdir path
spelled (call.Rmdir path) = of_path path_word.Rmdir path
spelled (call.Mount path to) = of_paths paths_word.Mount path to
spelled (call.Rename path to) = of_paths paths_word.Rename path to
spelled (call.Cp path to) = of_paths paths_word.Cp path to
spelled call.ConsoleEnable = of_bare bare_word.ConsoleEnable
spelled call.ConsoleDisable = of_bare bare_word.ConsoleDisable
spelled (call.TaskCreate name body stack priority) =
    of_word word.TaskCreate (Text name.bytes ∷ Number body ∷ Number stack ∷ Number priority ∷ [])
spelled call.TaskExit = of_word word.TaskExit []
spelled (call.TaskDelay ms) = of_word word.TaskDelay (Number ms ∷ [])
spelled call.Checkpoint = record { name = codes "checkpoint"; arguments = [] }
spelled (call.QueueCreate name depth size) =
    of_word word.QueueCreate (Text name.bytes ∷ Number depth ∷ Number size ∷ [])
spelled (call.QueuePut id payload) = of_word word.QueuePut (Id id ∷ Text payload.bytes ∷ [])
spelled (call.QueueGet id n wait) = of_word word.QueueGet (Id id ∷ Number n ∷ Wait wait ∷ [])
spelled (call.TimerAdd name timebase handler) =
    of_word word.TimerAdd (Text name.bytes ∷ Id timebase ∷ Number handler ∷ [])
spelled (call.TimerSet id start interval) = of_word word.TimerSet (Id id ∷ Number start ∷ Number interval ∷ [])
spelled (call.Advance to) = record { name = codes "advance"; arguments = Number to ∷ [] }
spelled (call.Mkfs device label blocks) =
    of_word word.Mkfs (Text device.bytes ∷ Text label.bytes ∷ Number blocks ∷ [])
spelled (call.Open path flags access) = of_word word.Open (Text path.bytes ∷ Flags flags ∷ Use access ∷ [])
spelled (call.Read id n wait) = of_word word.Read (Id id ∷ Number n ∷ Wait wait ∷ [])
spelled (call.Write id payload) = of_word word.Write (Id id ∷ Text payload.bytes ∷ [])
spelled (call.Lseek id offset whence) = of_word word.Lseek (Id id ∷ Offset offset ∷ From whence ∷ [])
spelled (call.SocketOpen kind) = of_word word.SocketOpen (Kind kind ∷ [])
spelled (call.SocketAccept id wait) = of_word word.SocketAccept (Id id ∷ Wait wait ∷ [])
spelled (call.SocketSend id payload port) =
    of_word word.SocketSend (Id id ∷ Text payload.bytes ∷ Number port ∷ [])
spelled (call.SocketRecv id n wait) = of_word word.SocketRecv (Id id ∷ Number n ∷ Wait wait ∷ [])
spelled (call.SocketShutdown id how) = of_word word.SocketShutdown (Id id ∷ Ways how ∷ [])
spelled (call.SelectOne id mode wait) = of_word word.SelectOne (Id id ∷ Ready mode ∷ Wait wait ∷ [])
spelled (call.SelectMulti reads writes wait) =
    of_word word.SelectMulti (StreamSet reads ∷ StreamSet writes ∷ Wait wait ∷ [])
spelled (call.ConsoleWrite payload) = of_word word.ConsoleWrite (Text payload.bytes ∷ [])
spelled (call.Drain n) = record { name = codes "drain"; arguments = Number n ∷ [] }
spelled (call.WaitEnd part) = record { name = codes "wait_end"; arguments = Number part ∷ [] }
spelled (call.WaitAbandon part) = record { name = codes "wait_abandon"; arguments = Number part ∷ [] }
