use Rattle.std.proofs.Common.{◌≡◌, ◌+◌, drop}
use Rattle.osal_socket.specs.Net.{free_place}
use Rattle.osal_socket.proofs.net.places.free_place.Given as goal

-- no place was free so far
abbrev pub invariant-loop-i : goal.invariant-loop-i
invariant-loop-i l = free_place l.connections ≡ l.i + free_place (drop l.i l.connections)
