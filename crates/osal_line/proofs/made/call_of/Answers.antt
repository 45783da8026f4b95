use Rattle.std.proofs.Common.{rules}
use Rattle.osal_line.proofs.made.call_of.Goals as goal
use Rattle.osal_line.proofs.made.call_of.Goals.{in-Object, in-Name+in_ok-copied-in-Name, in-Wait, in-Value+in_ok-copied-in-Value, in-Number, in-Path+in_ok-copied-in-Path, in-Paths+in_ok-copied-in-Paths+in_ok-copied-in-Paths-2, in-Bare, in-TaskCreate+in_ok-copied-in-TaskCreate, in-TaskExit, in-TaskDelay, in-QueueCreate+in_ok-copied-in-QueueCreate, in-QueuePut+in_ok-copied-in-QueuePut, in-QueueGet, in-TimerAdd+in_ok-copied-in-TimerAdd, in-TimerSet, in-Mkfs+in_ok-copied-in-Mkfs+in_ok-copied-in-Mkfs-2, in-Open+in_ok-copied-in-Open, in-Read, in-Write+in_ok-copied-in-Write, in-Lseek, in-SocketOpen, in-SocketAccept, in-SocketSend+in_ok-copied-in-SocketSend, in-SocketRecv, in-SocketShutdown, in-SelectOne, in-SelectMulti+in_ok-select_of-in-SelectMulti, in-ConsoleWrite+in_ok-copied-in-ConsoleWrite}

-- each call by itself: all at once are too many for one search
pub returns : goal.returns
returns c =
    elim c.match-call.branch [
      | in-Object w ↦ search rules
      | in-Name+in_ok-copied-in-Name w ↦ search rules
      | in-Wait w ↦ search rules
      | in-Value+in_ok-copied-in-Value w ↦ search rules
      | in-Number w ↦ search rules
      | in-Path+in_ok-copied-in-Path w ↦ search rules
      | in-Paths+in_ok-copied-in-Paths+in_ok-copied-in-Paths-2 w ↦ search rules
      | in-Bare w ↦ search rules
      | in-TaskCreate+in_ok-copied-in-TaskCreate w ↦ search rules
      | in-TaskExit w ↦ search rules
      | in-TaskDelay w ↦ search rules
      | in-QueueCreate+in_ok-copied-in-QueueCreate w ↦ search rules
      | in-QueuePut+in_ok-copied-in-QueuePut w ↦ search rules
      | in-QueueGet w ↦ search rules
      | in-TimerAdd+in_ok-copied-in-TimerAdd w ↦ search rules
      | in-TimerSet w ↦ search rules
      | in-Mkfs+in_ok-copied-in-Mkfs+in_ok-copied-in-Mkfs-2 w ↦ search rules
      | in-Open+in_ok-copied-in-Open w ↦ search rules
      | in-Read w ↦ search rules
      | in-Write+in_ok-copied-in-Write w ↦ search rules
      | in-Lseek w ↦ search rules
      | in-SocketOpen w ↦ search rules
      | in-SocketAccept w ↦ search rules
      | in-SocketSend+in_ok-copied-in-SocketSend w ↦ search rules
      | in-SocketRecv w ↦ search rules
      | in-SocketShutdown w ↦ search rules
      | in-SelectOne w ↦ search rules
      | in-SelectMulti+in_ok-select_of-in-SelectMulti w ↦ search rules
      | in-ConsoleWrite+in_ok-copied-in-ConsoleWrite w ↦ search rules
    ]
