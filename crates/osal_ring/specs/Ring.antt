-- Bytes that wait in a ring to be taken.
use Rattle.std.specs.Prelude.{◌++◌, List, [], ℕ, drop}

-- a ring: the bytes in it, the oldest first, and how many there may be
pub record Ring : Type 0 where
  pub bytes : List ℕ
  pub capacity : ℕ

-- a ring without bytes
abbrev pub empty_ring : ℕ → Ring
empty_ring capacity = record { bytes = []; capacity = capacity }

-- a ring with bytes behind those that are in it
abbrev pub with_bytes : Ring → List ℕ → Ring
with_bytes ring bytes = record ring { bytes = ring.bytes ++ bytes }

-- a ring without so many of its oldest bytes
abbrev pub without_first : Ring → ℕ → Ring
without_first ring count = record ring { bytes = drop count ring.bytes }
