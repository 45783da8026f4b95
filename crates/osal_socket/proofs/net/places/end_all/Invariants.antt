use Rattle.std.proofs.Common.{◌≡◌, drop}
use Rattle.osal_socket.specs.Closing.{without_pending}
use Rattle.osal_socket.proofs.net.places.end_all.Given as goal

-- the numbers that are left lead to the same connections
abbrev pub invariant-loop-i : goal.invariant-loop-i
invariant-loop-i l = without_pending l.connections (drop l.i l.numbers) ≡ without_pending l.initial.connections l.numbers
