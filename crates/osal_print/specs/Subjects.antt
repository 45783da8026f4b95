-- Calls by what they are on: the arguments of each subject are printed by a function of its own.
use Rattle.std.specs.Prelude.{Bool, true, false}
use Rattle.osal_line.specs.declared.line.ScriptCall.{ScriptCall}
use Rattle.osal_line.specs.declared.line.ScriptCall.TheVariants as script

-- the calls whose arguments have a shape that several calls share
abbrev pub is_shared : ScriptCall → Bool
is_shared (script.Object called id) = true
is_shared (script.Name called register name) = true
is_shared (script.Wait called id wait) = true
is_shared (script.Value called register name value) = true
is_shared (script.Number called id number) = true
is_shared (script.Path called path) = true
is_shared (script.Paths called path to) = true
is_shared (script.Bare called) = true
is_shared other = false

-- the others on tasks and queues
abbrev pub is_of_task_or_queue : ScriptCall → Bool
is_of_task_or_queue (script.TaskCreate register name body stack priority) = true
is_of_task_or_queue script.TaskExit = true
is_of_task_or_queue (script.TaskDelay ms) = true
is_of_task_or_queue (script.QueueCreate register name depth size) = true
is_of_task_or_queue (script.QueuePut id payload) = true
is_of_task_or_queue (script.QueueGet id n wait) = true
is_of_task_or_queue other = false

-- the others on timers
abbrev pub is_of_timer : ScriptCall → Bool
is_of_timer (script.TimerAdd register name timebase handler) = true
is_of_timer (script.TimerSet id start interval) = true
is_of_timer other = false

-- the others on files
abbrev pub is_of_file : ScriptCall → Bool
is_of_file (script.Mkfs device label blocks) = true
is_of_file (script.Open register path flags access) = true
is_of_file (script.Read id n wait) = true
is_of_file (script.Write id payload) = true
is_of_file (script.Lseek id offset whence) = true
is_of_file other = false
