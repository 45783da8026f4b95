-- Datagrams that wait at a socket, and how they are stored.
use Rattle.std.specs.Prelude.{◌≡◌, List, [], ◌∷◌, ℕ, length, take}
use Rattle.osal_socket.specs.Datagram.{Datagram, datagram_limit, waiting_limit}
use Rattle.osal_socket.specs.declared.datagrams.Waiting.TheInside.{Inside}

-- datagrams of the ports that they came from and of their bytes
abbrev pub datagrams_of : List ℕ → List (List ℕ) → List Datagram
datagrams_of (from ∷ ports) (bytes ∷ messages) = record { from = from; bytes = bytes } ∷ datagrams_of ports messages
datagrams_of other messages = []

-- there is a port for each, and room for as many as may wait
pub record IsWaiting (inside : Inside) : Type 0 where
  pub each : length inside.ports.items ≡ length inside.messages.messages
  pub depth : inside.messages.depth ≡ waiting_limit
  pub size : inside.messages.size ≡ datagram_limit
  pub places : inside.ports.capacity ≡ waiting_limit

-- the port of the oldest, the first of its bytes, and those behind it
abbrev pub oldest_taken : ℕ → List Datagram → ℕ × List ℕ × List Datagram
oldest_taken n [] = (0, [], [])
oldest_taken n (datagram ∷ waiting) = (datagram.from, take n datagram.bytes, waiting)
