-- Where the bytes of a file lie.
use Rattle.std.specs.Prelude.{◌≡◌, ◌≢◌, ◌<◌, ◌+◌, ◌*◌, ◌/◌, ◌%◌, List, [], ℕ, length, map, slice_index, slice_index_or}
use Rattle.std.specs.List.{range_with_len}

-- where a byte lies in the store, by its place in the list of blocks
abbrev pub address : List ℕ → ℕ → ℕ
address blocks i = slice_index blocks (i / 512) * 512 + i % 512

-- the first n bytes on a list of blocks
unfoldable pub bytes_in : List ℕ → List ℕ → ℕ → List ℕ
bytes_in store blocks n = map (λ i. slice_index store (address blocks i)) (range_with_len 0 n)

-- the bytes of each file, by the lists of blocks and the lengths
unfoldable pub files_in : List ℕ → List (List ℕ) → List ℕ → List (List ℕ)
files_in store lists lengths =
    map (λ file. bytes_in store (slice_index_or lists file []) (slice_index lengths file))
    (range_with_len 0 (length lengths))

-- the first n bytes of a piece lie on a list of blocks from a place on, and all else is as it was
pub record Laid (old new blocks : List ℕ) (place : ℕ) (piece : List ℕ) (n : ℕ) : Type 0 where
  pub inside : (i : ℕ) → i < n → slice_index new (address blocks (place + i)) ≡ slice_index piece i
  pub outside : (at : ℕ) → ((i : ℕ) → i < n → address blocks (place + i) ≢ at) → slice_index new at ≡ slice_index old at

-- bytes that were read from a place of a list of blocks on
pub record Reads (store blocks : List ℕ) (place : ℕ) (bytes : List ℕ) (n : ℕ) : Type 0 where
  pub count : length bytes ≡ n
  pub each : (i : ℕ) → i < n → slice_index bytes i ≡ slice_index store (address blocks (place + i))
