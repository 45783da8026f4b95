-- What is known of every call of the io part: one that answers a code below 0 leaves the part, each turns at most one of
-- the three tables, by one move, and the open waits are those of streams.
use Rattle.std.proofs.Common.{◌≡◌, ℕ, true, false, is_some, refl, subst}
use Rattle.std.proofs.lemmas.Bool.{true≢false}
use Rattle.osal_base.specs.declared.status.Status.TheVariants as status
use Rattle.osal_base.specs.declared.time.Moment.{Moment}
use Rattle.osal_base.specs.Reply.{is_waits}
use Rattle.osal_object.specs.ObjectLaws.{IsCounted}
use Rattle.osal_object.specs.Waits.{wait_of}
use Rattle.osal_object.proofs.OpenWaits.{IsClosed}
use Rattle.osal_object.proofs.Refusals.{Leaves, within, abandon_keeps}
use Rattle.osal_object.proofs.WaitSteps.{IsWaitStep, IsWaitEnd, abandon_closed}
use Rattle.osal_io.specs.declared.awaited.Awaited.TheVariants as awaited
use Rattle.osal_io.specs.Io.{IoState, refused}
use Rattle.osal_io.specs.Calls.{io_step}
use Rattle.osal_io.specs.Ends.{wait_end, wait_abandon}
use Rattle.osal_io.proofs.AnyTurns.{AnyTurns, Moves, TurnsOne, HoldsStill, call_turns, end_turns, turns_move, turns_one, turns_still}
use Rattle.osal_io.proofs.Awaits.{IsIoCall, Now, IsIoEnd, or_waits, end_ends, abandon_ends}
use Rattle.osal_io.proofs.Directories.{dir_open_known, dir_read_beside, dir_rewind_beside, dir_close_known}
use Rattle.osal_io.proofs.IoSteps.{files_step, beside_step, refused_step, now_step, close_step, hold_step, release_step}
use Rattle.osal_io.proofs.Nodes.{remove_beside, rename_beside, cp_beside, stat_beside, mkdir_beside, rmdir_beside}
use Rattle.osal_io.proofs.SelectSteps.{one_tries, multi_tries}
use Rattle.osal_io.proofs.StreamCalls.{open_tries, read_tries, write_tries, lseek_tries, socket_open_tries, bind_tries, listen_tries, connect_tries, accept_tries, send_tries, receive_tries, shutdown_tries}
use Rattle.osal_io.proofs.StreamWaits.{seen_in, call_waits, call_keeps, end_waits, end_stays, end_refuses}
use Rattle.osal_io.proofs.Systems.{mkfs_known, mount_known, unmount_known, rmfs_known, stat_volume_beside}
use Rattle.osal_call.specs.declared.call.Call.{Call}
use Rattle.osal_call.specs.declared.call.Call.TheVariants as call
use Rattle.osal_call.specs.Signature.{timeout_of, is_wait_end, ends_wait}
pub use Rattle.osal_io.proofs.Below.{below, refused_leaves}
pub use Rattle.osal_io.proofs.Makes.{is_holding}
pub use Rattle.osal_io.proofs.Stale.{IsStale, streams_stale, directories_stale, either_stale}

module _ (io : IoState) (task : ℕ) (now : Moment) where
  -- each call that ends no wait holds or releases only where it is a hold or a release, and waits only so long
  pub io_known : (made : Call) → ends_wait made ≡ false → IsIoCall (is_holding made) io task now (timeout_of made) (io_step io task now made)
  io_known (call.Mkfs device label blocks) other = Now (files_step (mkfs_known io.files device.bytes label.bytes blocks))
  io_known (call.Mount device path) other = Now (files_step (mount_known io.files device.bytes path.bytes))
  io_known (call.Unmount path) other = Now (files_step (unmount_known io.files path.bytes))
  io_known (call.Rmfs device) other = Now (files_step (rmfs_known io.files device.bytes))
  io_known (call.StatVolume path) other = Now (beside_step (stat_volume_beside io.files path.bytes))
  io_known (call.Open path flags access) other = Now (now_step (open_tries io path.bytes flags access))
  io_known (call.Read id n wait) other = or_waits io task now (awaited.Read id n) (read_tries io id n wait)
  io_known (call.Write id payload) other = Now (now_step (write_tries io id payload.bytes))
  io_known (call.Lseek id offset whence) other = Now (now_step (lseek_tries io id offset whence))
  io_known (call.Close id) other = Now (close_step io id)
  io_known (call.Remove path) other = Now (beside_step (remove_beside io.files path.bytes))
  io_known (call.Rename path to) other = Now (beside_step (rename_beside io.files path.bytes to.bytes))
  io_known (call.Cp path to) other = Now (beside_step (cp_beside io.files path.bytes to.bytes))
  io_known (call.Stat path) other = Now (beside_step (stat_beside io.files path.bytes))
  io_known (call.Mkdir path) other = Now (beside_step (mkdir_beside io.files path.bytes))
  io_known (call.Rmdir path) other = Now (beside_step (rmdir_beside io.files path.bytes))
  io_known (call.DirOpen path) other = Now (files_step (dir_open_known io.files path.bytes))
  io_known (call.DirRead id) other = Now (beside_step (dir_read_beside io.files id))
  io_known (call.DirRewind id) other = Now (beside_step (dir_rewind_beside io.files id))
  io_known (call.DirClose id) other = Now (files_step (dir_close_known io.files id))
  io_known (call.SocketOpen carried) other = Now (now_step (socket_open_tries io carried))
  io_known (call.SocketBind id port) other = Now (now_step (bind_tries io id port))
  io_known (call.SocketListen id) other = Now (now_step (listen_tries io id))
  io_known (call.SocketConnect id port) other = Now (now_step (connect_tries io id port))
  io_known (call.SocketAccept id wait) other = or_waits io task now (awaited.Accept id) (accept_tries io id wait)
  io_known (call.SocketSend id payload port) other = Now (now_step (send_tries io id payload.bytes port))
  io_known (call.SocketRecv id n wait) other = or_waits io task now (awaited.Receive id n) (receive_tries io id n wait)
  io_known (call.SocketShutdown id which) other = Now (now_step (shutdown_tries io id which))
  io_known (call.SelectOne id asked wait) other = or_waits io task now (awaited.One id asked) (one_tries io id asked wait)
  io_known (call.SelectMulti reads writes wait) other = or_waits io task now (awaited.Multi reads writes) (multi_tries io reads writes wait)
  io_known (call.WaitEnd part) other = absurd (true≢false other)
  io_known (call.WaitAbandon part) other = absurd (true≢false other)
  io_known (call.Hold id) other = Now (hold_step io id)
  io_known (call.Release id) other = Now (release_step io id)
  io_known _ other = Now (refused_step status.ErrIncorrectObjState)

  io_turns : (made : Call) → AnyTurns (is_holding made) io (io_step io task now made).1
  io_turns (call.WaitEnd part) = end_turns (end_ends io task now)
  io_turns (call.WaitAbandon part) = end_turns (abandon_ends io task now)
  io_turns made = call_turns (io_known made refl)

  -- a call makes one move of each table
  pub io_moves : (made : Call) → Moves io (io_step io task now made).1
  io_moves made = turns_move (io_turns made)

  -- a call makes at most one identifier active or not active
  pub io_one : (made : Call) → TurnsOne io (io_step io task now made).1
  io_one made = turns_one (io_turns made)

  -- a call that is neither a hold nor a release leaves the holds of what is active before and after it
  pub io_holds_still : (made : Call) → is_holding made ≡ false → IsCounted io.streams → HoldsStill io (io_step io task now made).1
  io_holds_still made none counted =
      turns_still (subst (λ holding. AnyTurns holding io (io_step io task now made).1) none (io_turns made)) counted

  -- a call other than the end of a wait that answers a code below 0 leaves the part
  pub io_keeps : (made : Call) → is_wait_end made ≡ false → Leaves below io (io_step io task now made)
  io_keeps (call.WaitEnd part) other = absurd (true≢false other)
  io_keeps (call.WaitAbandon part) other =
      within (λ streams. record io { streams = streams }) (refused_leaves (abandon_keeps io.streams task))
  io_keeps made other = call_keeps io task now (io_known made refl)

  -- a call that ends no wait leaves the open waits, or its task waits
  pub io_waits : (made : Call) → ends_wait made ≡ false → IsWaitStep (seen_in io) task (timeout_of made) (io_step io task now made).0.answer (seen_in (io_step io task now made).1)
  io_waits made other = call_waits io task now (io_known made other)

  -- the end of a wait
  pub io_end : IsIoEnd io task (wait_end io task now)
  io_end = end_ends io task now

  -- it is refused where none is open, waits on, or ends the wait
  pub io_ends : IsWaitEnd (seen_in io) task (wait_end io task now).0.answer (seen_in (wait_end io task now).1)
  io_ends = end_waits io task io_end

  -- the end of a wait that waits on leaves the part
  pub io_stays : Leaves is_waits io (wait_end io task now)
  io_stays = end_stays io task io_end

  -- the end of a wait where the task has none is refused, and leaves the part
  pub io_refuses : is_some (wait_of io.streams.waits task) ≡ false → wait_end io task now ≡ refused io status.ErrIncorrectObjState
  io_refuses = end_refuses io task io_end

  -- a wait that is given up ends
  pub io_abandons : is_some (wait_of io.streams.waits task) ≡ true → IsClosed (seen_in io) (seen_in (wait_abandon io task).1) task
  io_abandons some = abandon_closed io.streams task some
