-- A call line that was read is read again from its printed words, and these take no more bytes.
use Rattle.std.proofs.Common.{◌≡◌, ◌≤◌, ℕ, List, length, false, Option, Some, subst}
use Rattle.osal_call.specs.declared.word.CallWord.{CallWord}
use Rattle.osal_call.specs.declared.word.CallWord.TheVariants as word
use Rattle.osal_line.specs.declared.kind.BodyKind.{BodyKind}
use Rattle.osal_line.specs.declared.line.ScriptCall.{ScriptCall}
use Rattle.osal_line.specs.Registers.{Registers}
use Rattle.osal_line.specs.Grammar.{call_of_words}
use Rattle.osal_print.specs.PrintText.{spaced}
use Rattle.osal_print.proofs.IsWord.{AreClean}
use Rattle.osal_print.proofs.CallAgain.{IsReadAgain}
use Rattle.osal_print.proofs.RegisterCalls.{object_again, wait_call_again, number_call_again, timer_set_again, lseek_again}
use Rattle.osal_print.proofs.StreamCalls.{socket_open_again, socket_accept_again, socket_shutdown_again, select_one_again, select_multi_again, queue_get_again, read_again, socket_recv_again}
use Rattle.osal_print.proofs.NamedCalls.{name_again, value_call_again, queue_create_again, open_again, task_create_again, timer_add_again}
use Rattle.osal_print.proofs.PlainCalls.{path_again, paths_again, mkfs_again, bare_again, exit_again, delay_again}
use Rattle.osal_print.proofs.PayloadCalls.{queue_put_again, write_again, socket_send_again, console_write_again}
pub use Rattle.osal_print.proofs.Mirrored.{printed_names, mirrored}
pub use Rattle.osal_print.proofs.CallAgain.{SameBodies, CallAgain}

module _ (later printed : BodyKind → List ℕ → Option ℕ) (names : ℕ → List ℕ) (bodies : SameBodies later printed names) (before : Registers) (few : length before.names ≤ 32) where
  each_again : (called : CallWord) (words : List (List ℕ)) → AreClean words → length (spaced words) ≤ 255 → IsReadAgain printed names called words before (call_of_words later called words before)
  each_again (word.Object called) words clean short = object_again printed names before few called words
  each_again (word.Name called) words clean short = name_again printed names before few called words clean
  each_again (word.Wait called) words clean short = wait_call_again printed names before few called words
  each_again (word.Value called) words clean short = value_call_again printed names before few called words clean
  each_again (word.Number called) words clean short = number_call_again printed names before few called words
  each_again (word.Path called) words clean short = path_again printed names before few called words clean
  each_again (word.Paths called) words clean short = paths_again printed names before few called words clean
  each_again (word.Bare called) words clean short = bare_again printed names before few called words
  each_again word.TaskCreate words clean short = task_create_again later printed names bodies before few words clean
  each_again word.TaskExit words clean short = exit_again printed names before few words
  each_again word.TaskDelay words clean short = delay_again printed names before few words
  each_again word.QueueCreate words clean short = queue_create_again printed names before few words clean
  each_again word.QueuePut words clean short = queue_put_again printed names before few words clean short
  each_again word.QueueGet words clean short = queue_get_again printed names before few words
  each_again word.TimerAdd words clean short = timer_add_again later printed names bodies before few words clean
  each_again word.TimerSet words clean short = timer_set_again printed names before few words
  each_again word.Mkfs words clean short = mkfs_again printed names before few words clean
  each_again word.Open words clean short = open_again printed names before few words clean
  each_again word.Read words clean short = read_again printed names before few words
  each_again word.Write words clean short = write_again printed names before few words clean short
  each_again word.Lseek words clean short = lseek_again printed names before few words
  each_again word.SocketOpen words clean short = socket_open_again printed names before few words
  each_again word.SocketAccept words clean short = socket_accept_again printed names before few words
  each_again word.SocketSend words clean short = socket_send_again printed names before few words clean short
  each_again word.SocketRecv words clean short = socket_recv_again printed names before few words
  each_again word.SocketShutdown words clean short = socket_shutdown_again printed names before few words
  each_again word.SelectOne words clean short = select_one_again printed names before few words
  each_again word.SelectMulti words clean short = select_multi_again printed names before few words
  each_again word.ConsoleWrite words clean short = console_write_again printed names before few words clean short

-- a call line that was read is read again: its words may stand in a line and fit in one, and it named no register too
-- many and no body that no later line declares
pub call_again : (later printed : BodyKind → List ℕ → Option ℕ) (names : ℕ → List ℕ) (called : CallWord) (words : List (List ℕ)) (before after : Registers) (call : ScriptCall) → SameBodies later printed names → AreClean words → length (spaced words) ≤ 255 → length before.names ≤ 32 → call_of_words later called words before ≡ Some (call, after) → after.over ≡ false → after.undeclared ≡ false → CallAgain printed names called words before after call
call_again later printed names called words before after call bodies clean short few read told known =
    subst (IsReadAgain printed names called words before) read (each_again later printed names bodies before few called words clean short) told known
