-- The calls of the io part.
use Rattle.std.specs.Prelude.{ℕ, Bool, true, false}
use Rattle.osal_base.specs.declared.status.Status.TheVariants as status
use Rattle.osal_base.specs.declared.time.Moment.{Moment}
use Rattle.osal_base.specs.Reply.{Replied, refusal}
use Rattle.osal_call.specs.declared.call.Call.{Call}
use Rattle.osal_call.specs.declared.call.Call.TheVariants as call
use Rattle.osal_file.specs.Systems as of_systems
use Rattle.osal_file.specs.Nodes as of_nodes
use Rattle.osal_file.specs.Directories as of_directories
use Rattle.osal_io.specs.Io.{IoState, in_files, open_file, read, write, lseek, close, hold, release}
use Rattle.osal_io.specs.Sockets.{socket_open, socket_bind, socket_listen, socket_connect, socket_accept, socket_send, socket_recv, socket_shutdown}
use Rattle.osal_io.specs.Select.{select_one, select_multi}
use Rattle.osal_io.specs.Ends.{wait_end, wait_abandon}
pub use Rattle.osal_io.specs.Ends.{ready}

-- the calls of the io part
abbrev pub io_step : IoState → ℕ → Moment → Call → Replied × IoState
io_step io task now (call.Mkfs device label blocks) = in_files io (of_systems.mkfs io.files device.bytes label.bytes blocks)
io_step io task now (call.Mount device path) = in_files io (of_systems.mount io.files device.bytes path.bytes)
io_step io task now (call.Unmount path) = in_files io (of_systems.unmount io.files path.bytes)
io_step io task now (call.Rmfs device) = in_files io (of_systems.rmfs io.files device.bytes)
io_step io task now (call.StatVolume path) = in_files io (of_systems.stat_volume io.files path.bytes)
io_step io task now (call.Open path flags access) = open_file io path.bytes flags access
io_step io task now (call.Read id n wait) = read io task now id n wait
io_step io task now (call.Write id payload) = write io id payload.bytes
io_step io task now (call.Lseek id offset whence) = lseek io id offset whence
io_step io task now (call.Close id) = close io id
io_step io task now (call.Remove path) = in_files io (of_nodes.remove io.files path.bytes)
io_step io task now (call.Rename path to) = in_files io (of_nodes.rename io.files path.bytes to.bytes)
io_step io task now (call.Cp path to) = in_files io (of_nodes.cp io.files path.bytes to.bytes)
io_step io task now (call.Stat path) = in_files io (of_nodes.stat io.files path.bytes)
io_step io task now (call.Mkdir path) = in_files io (of_nodes.mkdir io.files path.bytes)
io_step io task now (call.Rmdir path) = in_files io (of_nodes.rmdir io.files path.bytes)
io_step io task now (call.DirOpen path) = in_files io (of_directories.dir_open io.files path.bytes)
io_step io task now (call.DirRead id) = in_files io (of_directories.dir_read io.files id)
io_step io task now (call.DirRewind id) = in_files io (of_directories.dir_rewind io.files id)
io_step io task now (call.DirClose id) = in_files io (of_directories.dir_close io.files id)
io_step io task now (call.SocketOpen carried) = socket_open io carried
io_step io task now (call.SocketBind id port) = socket_bind io id port
io_step io task now (call.SocketListen id) = socket_listen io id
io_step io task now (call.SocketConnect id port) = socket_connect io id port
io_step io task now (call.SocketAccept id wait) = socket_accept io task now id wait
io_step io task now (call.SocketSend id payload port) = socket_send io id payload.bytes port
io_step io task now (call.SocketRecv id n wait) = socket_recv io task now id n wait
io_step io task now (call.SocketShutdown id which) = socket_shutdown io id which
io_step io task now (call.SelectOne id asked wait) = select_one io task now id asked wait
io_step io task now (call.SelectMulti reads writes wait) = select_multi io task now reads writes wait
io_step io task now (call.WaitEnd part) = wait_end io task now
io_step io task now (call.WaitAbandon part) = wait_abandon io task
io_step io task now (call.Hold id) = hold io id
io_step io task now (call.Release id) = release io id
io_step io task now other = (refusal status.ErrIncorrectObjState, io)

-- whether a call may wait, or ends a wait
abbrev pub may_wait_or_end : Call → Bool
may_wait_or_end (call.Read id n wait) = true
may_wait_or_end (call.SocketAccept id wait) = true
may_wait_or_end (call.SocketRecv id n wait) = true
may_wait_or_end (call.SelectOne id asked wait) = true
may_wait_or_end (call.SelectMulti reads writes wait) = true
may_wait_or_end (call.WaitEnd part) = true
may_wait_or_end (call.WaitAbandon part) = true
may_wait_or_end other = false
