-- One datagram.
use Rattle.std.specs.Prelude.{List, ℕ}

-- the port of the socket that sent it, 0 where that had none, and its bytes
pub record Datagram : Type 0 where
  pub from : ℕ
  pub bytes : List ℕ

-- the most bytes of a datagram
abbrev pub datagram_limit : ℕ
datagram_limit = 1024

-- the most datagrams that wait at a socket
abbrev pub waiting_limit : ℕ
waiting_limit = 16
