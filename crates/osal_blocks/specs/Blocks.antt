-- The bytes of a volume's files, on blocks of 512 bytes.
use Rattle.std.specs.Prelude.{◌≡◌, ◌≤◌, ◌+◌, ◌-◌, ◌*◌, ◌/◌, ◌++◌, ℕ, List, []}
use Rattle.std.specs.Prelude.{length, min, take, drop, replicate, slice_index_or, slice_set}
use Rattle.std.specs.List.{sum_by}

-- how many blocks there are, how many of them directories take, and the bytes of each file by its number
pub record BlocksState : Type 0 where
  pub total : ℕ
  pub reserved : ℕ
  pub files : List (List ℕ)

-- the bytes of a file
abbrev pub bytes_of : BlocksState → ℕ → List ℕ
bytes_of state file = slice_index_or state.files file []

-- how many blocks so many bytes take
abbrev pub blocks_for : ℕ → ℕ
blocks_for n = (n + 511) / 512

-- how many blocks a file with these bytes takes
abbrev pub blocks_of : List ℕ → ℕ
blocks_of bytes = blocks_for (length bytes)

-- how many blocks are taken
abbrev pub used : BlocksState → ℕ
used state = state.reserved + sum_by blocks_of state.files

-- how many blocks can be taken
abbrev pub free : BlocksState → ℕ
free state = state.total - used state

-- there are 256 files, on no more blocks than there are
pub record IsSound (state : BlocksState) : Type 0 where
  pub files : length state.files ≡ 256
  pub within : used state ≤ state.total
  pub some : 1 ≤ state.total
  pub few : state.total ≤ 4096

-- no file has bytes, and no block is taken
pub record IsEmpty (state : BlocksState) (total : ℕ) : Type 0 where
  pub blocks : state.total ≡ total
  pub reserved : state.reserved ≡ 0
  pub count : length state.files ≡ 256
  pub files : (file : ℕ) → bytes_of state file ≡ []

-- the most bytes that a file can come to have: those of the free blocks and of its own
abbrev pub most_bytes : BlocksState → ℕ → ℕ
most_bytes state file = (free state + blocks_of (bytes_of state file)) * 512

-- how many bytes of so many can be written to a file at a place
abbrev pub fitting : BlocksState → ℕ → ℕ → ℕ → ℕ
fitting state file place count = min count (most_bytes state file - place)

-- bytes with a piece over them at a place, and zero bytes before it where there were none
abbrev pub overwritten : List ℕ → ℕ → List ℕ → List ℕ
overwritten bytes place piece =
    take place bytes ++ (replicate (place - length bytes) 0 ++ (piece ++ drop (place + length piece) bytes))

-- a file has other bytes
abbrev pub with_file : BlocksState → ℕ → List ℕ → BlocksState
with_file state file bytes = record state { files = slice_set state.files file bytes }

-- directories take so many blocks
abbrev pub with_reserved : BlocksState → ℕ → BlocksState
with_reserved state reserved = record state { reserved = reserved }
