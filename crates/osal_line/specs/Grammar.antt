-- The call that a line's arguments make, and how its registers are numbered.
use Rattle.std.specs.Prelude.{List, ℕ, Option}
use Rattle.osal_call.specs.declared.word.CallWord.{CallWord}
use Rattle.osal_call.specs.declared.word.CallWord.TheVariants as word
use Rattle.osal_line.specs.declared.kind.BodyKind.{BodyKind}
use Rattle.osal_line.specs.declared.kind.BodyKind.TheVariants as kind
use Rattle.osal_line.specs.declared.line.ScriptCall.{ScriptCall}
use Rattle.osal_line.specs.declared.line.ScriptCall.TheVariants as script
use Rattle.osal_line.specs.Registers.{Registers}
use Rattle.osal_line.specs.Arguments.{as_call, only_id, only_name, id_and_wait, name_and_number, id_and_number}
use Rattle.osal_line.specs.Tasks.{without_register, task_create_of, task_exit_of, task_delay_of}
use Rattle.osal_line.specs.Queues.{queue_create_of, queue_put_of, queue_get_of}
use Rattle.osal_line.specs.Timers.{timer_add_of, timer_set_of}
use Rattle.osal_line.specs.Consoles.{bare_call_of, console_write_of}
use Rattle.osal_line.specs.Files.{path_call_of, paths_call_of, mkfs_of, open_of, read_of, write_of, lseek_of}
use Rattle.osal_line.specs.Sockets.{socket_open_of, socket_accept_of, socket_send_of, socket_recv_of, socket_shutdown_of}
use Rattle.osal_line.specs.Selects.{select_one_of, select_multi_of}

-- the call that a line's arguments make, in the order in which they stand, and the registers with it; later lines
-- declare bodies of these kinds and numbers
abbrev pub call_of_words : (BodyKind → List ℕ → Option ℕ) → CallWord → List (List ℕ) → Registers → Option (ScriptCall × Registers)
call_of_words later (word.Object called) words registers =
    as_call (λ id. script.Object called id) (only_id words registers)
call_of_words later (word.Name called) words registers =
    as_call (λ found. script.Name called found.0 found.1) (only_name words registers)
call_of_words later (word.Wait called) words registers =
    as_call (λ found. script.Wait called found.0 found.1) (id_and_wait words registers)
call_of_words later (word.Value called) words registers =
    as_call (λ found. script.Value called found.0 found.1 found.2) (name_and_number words registers)
call_of_words later (word.Number called) words registers =
    as_call (λ found. script.Number called found.0 found.1) (id_and_number words registers)
call_of_words later (word.Path called) words registers = without_register registers (path_call_of called words)
call_of_words later (word.Paths called) words registers = without_register registers (paths_call_of called words)
call_of_words later (word.Bare called) words registers = without_register registers (bare_call_of called words)
call_of_words later word.TaskCreate words registers = task_create_of (later kind.Task) words registers
call_of_words later word.TaskExit words registers = without_register registers (task_exit_of words)
call_of_words later word.TaskDelay words registers = without_register registers (task_delay_of words)
call_of_words later word.QueueCreate words registers = queue_create_of words registers
call_of_words later word.QueuePut words registers = queue_put_of words registers
call_of_words later word.QueueGet words registers = queue_get_of words registers
call_of_words later word.TimerAdd words registers = timer_add_of (later kind.Handler) words registers
call_of_words later word.TimerSet words registers = timer_set_of words registers
call_of_words later word.Mkfs words registers = without_register registers (mkfs_of words)
call_of_words later word.Open words registers = open_of words registers
call_of_words later word.Read words registers = read_of words registers
call_of_words later word.Write words registers = write_of words registers
call_of_words later word.Lseek words registers = lseek_of words registers
call_of_words later word.SocketOpen words registers = socket_open_of words registers
call_of_words later word.SocketAccept words registers = socket_accept_of words registers
call_of_words later word.SocketSend words registers = socket_send_of words registers
call_of_words later word.SocketRecv words registers = socket_recv_of words registers
call_of_words later word.SocketShutdown words registers = socket_shutdown_of words registers
call_of_words later word.SelectOne words registers = select_one_of words registers
call_of_words later word.SelectMulti words registers = select_multi_of words registers
call_of_words later word.ConsoleWrite words registers = without_register registers (console_write_of words)
