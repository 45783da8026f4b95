use Rattle.std.proofs.Common.{◌≡◌, ◌+◌, drop, option_map}
use Rattle.osal_socket.specs.Net.{is_at_port, place_where}
use Rattle.osal_socket.proofs.net.places.slot_at_port.Given as goal

-- none of the sockets so far has the port
abbrev pub invariant-loop-i : goal.invariant-loop-i
invariant-loop-i l =
    place_where (is_at_port l.kind l.port) l.sockets
    ≡ option_map (λ place. l.i + place) (place_where (is_at_port l.kind l.port) (drop l.i l.sockets))
